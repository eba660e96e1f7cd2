use Rattle.std.proofs.Common.{◌≡◌, ◌+◌, ◌≤◌, length, replicate, sym, ap, ◌∙◌, arith}
use Rattle.std.proofs.lemmas.List.{length-replicate}
use Rattle.dym_region.specs.Content.{part_of, with_part, zeros_behind}
use Rattle.dym_region.proofs.Zeros.{length-part_of, put_in, with_within, with_zeros_past}
use Rattle.dym_region.proofs.used_bytes.zero_at.Goals as goal

pub returns-then-used-clause-content : goal.returns-then-used-clause-content
returns-then-used-clause-content g c =
    let old = c.args.bytes.now in
    let real = c.fill_to.new.bytes in
    let new = c.fill.new.self in
    let at = c.args.at in
    let len = c.args.len in
    let within : at + len ≤ length real.items = omega (arith, c.fill_to.ensures.reached, real.ok.0) in
    let zeros : new ≡ replicate len 0 = c.fill.ensures.after (λ y is. is) ∙ ap (λ k. replicate k 0) (ap (λ xs. length (part_of xs at len)) c.deref_mut.ensures.value ∙ length-part_of real.items at len within) in
    let counted : length new ≡ len = ap length zeros ∙ length-replicate len 0 in
    ap (zeros_behind real.cap) (put_in c.deref_mut.result.now real.items new _ at len real.len c.deref_mut.ensures.value real.ok.0 counted within)
    ∙ with_within real.cap real.items at new (omega (arith, within, counted))
    ∙ ap (λ xs. with_part xs at new) c.fill_to.ensures.content
    ∙ ap (with_part (zeros_behind old.cap old.items) at) zeros

pub returns-else-used-clause-content : goal.returns-else-used-clause-content
returns-else-used-clause-content g c =
    let old = c.args.bytes.now in
    c.fill_to.ensures.content ∙ sym (with_zeros_past old.cap old.items c.args.at c.args.len (omega (arith, c.if-used.false, c.len.ensures, old.ok.0)) c.requires)
