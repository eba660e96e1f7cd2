use Rattle.std.proofs.Common.{◌+◌, ◌≤◌, length, sym, ap, ◌∙◌, arith, vec_capacity}
use Rattle.dym_region.specs.Content.{part_of}
use Rattle.dym_region.proofs.Zeros.{part_within}
use Rattle.dym_region.proofs.used_bytes.bytes_at.Goals as goal

pub returns : goal.returns
returns g c =
    let held = c.args.bytes.now in
    let within : c.args.at + c.args.len ≤ length held.items = omega (arith, c.requires, held.ok.0) in
    ap (λ xs. part_of xs c.args.at c.args.len) c.deref.ensures.value ∙ sym (part_within (vec_capacity held) held.items c.args.at c.args.len within)
