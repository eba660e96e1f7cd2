use Rattle.std.proofs.Common.{◌+◌, ◌≤◌, length, ap, ◌∙◌, arith}
use Rattle.dym_region.specs.Content.{with_part, zeros_behind}
use Rattle.dym_region.proofs.Zeros.{put_in, with_within}
use Rattle.dym_region.proofs.used_bytes.write_at.Goals as goal

pub returns-clause-content : goal.returns-clause-content
returns-clause-content g c =
    let old = c.args.bytes.now in
    let real = c.fill_to.new.bytes in
    let new = c.copy_from_slice.new.self in
    let at = c.args.at in
    let within : at + length c.args.new.now ≤ length real.items = omega (arith, c.fill_to.ensures.reached, real.ok.0) in
    ap (zeros_behind real.cap) (put_in c.deref_mut.result.now real.items new _ at (length c.args.new.now) real.len c.deref_mut.ensures.value real.ok.0 (ap length c.copy_from_slice.ensures.after) within)
    ∙ with_within real.cap real.items at new (omega (arith, within, ap length c.copy_from_slice.ensures.after))
    ∙ ap (λ xs. with_part xs at new) c.fill_to.ensures.content
    ∙ ap (with_part (zeros_behind old.cap old.items) at) c.copy_from_slice.ensures.after
