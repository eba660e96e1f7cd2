use Rattle.std.proofs.Common.{◌≡◌, ◌+◌, ◌-◌, ◌++◌, length, drop, replicate, sym, ap, ◌∙◌, arith, vec_capacity}
use Rattle.std.proofs.lemmas.List.{drop-replicate}
use Rattle.std.proofs.lemmas.Slice.{between_to_end}
use Rattle.dym_region.proofs.Zeros.{part_across, part_past}
use Rattle.dym_region.proofs.used_bytes.read_past.Goals as goal

pub returns-then-at-len : goal.returns-then-at-len
returns-then-at-len g c =
    let held = c.args.bytes.now in
    let at = c.args.at in
    let n = length c.args.out.now in
    let front : c.copy_from_slice.new.self ≡ drop at held.items
    = c.copy_from_slice.ensures.after ∙ between_to_end c.deref.result.now at (length c.deref.result.now) (omega arith) ∙ ap (drop at) c.deref.ensures.value in
    let back : drop (c.len-then-at-len.result - at) c.fill.new.self ≡ replicate (at + n - length held.items) 0
    = ap (drop (c.len-then-at-len.result - at)) (c.fill.ensures.after (λ y is. is)) ∙ drop-replicate (c.len-then-at-len.result - at) n 0
    ∙ ap (λ k. replicate k 0) (omega (arith, c.len-then-at-len.ensures, held.ok.0, c.if-at-len.true, c.len.ensures, c.requires.past)) in
    (λ i. front i ++ back i)
    ∙ sym (part_across (vec_capacity held) held.items at n (omega (arith, c.if-at-len.true, c.len.ensures, held.ok.0)) (omega (arith, c.requires.past, held.ok.0)) c.requires.within)

pub returns-else-at-len : goal.returns-else-at-len
returns-else-at-len g c =
    let held = c.args.bytes.now in
    c.fill.ensures.after (λ y is. is)
    ∙ sym (part_past (vec_capacity held) held.items c.args.at (length c.args.out.now) (omega (arith, c.if-at-len.false, c.len.ensures, held.ok.0)) c.requires.within)
