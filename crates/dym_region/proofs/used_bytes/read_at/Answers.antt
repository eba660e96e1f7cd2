use Rattle.std.proofs.Common.{◌+◌, ◌≤◌, length, sym, ap, ◌∙◌, arith, vec_capacity}
use Rattle.dym_region.specs.Content.{part_of}
use Rattle.dym_region.proofs.Zeros.{part_within}
use Rattle.dym_region.proofs.used_bytes.read_at.Goals as goal

pub returns-then-end-len : goal.returns-then-end-len
returns-then-end-len g c =
    let held = c.args.bytes.now in
    let within : c.args.at + length c.args.out.now ≤ length held.items = omega (arith, c.if-end-len.true, c.len.ensures, held.ok.0) in
    c.copy_from_slice.ensures.after ∙ ap (λ xs. part_of xs c.args.at (length c.args.out.now)) c.deref.ensures.value
    ∙ sym (part_within (vec_capacity held) held.items c.args.at (length c.args.out.now) within)
