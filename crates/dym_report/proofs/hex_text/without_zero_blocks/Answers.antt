-- A block of zero bytes at the end doesn't matter.
use Rattle.std.proofs.Common.{◌≡◌, ◌-◌, true, length, drop, arith, ◌∙◌}
use Rattle.std.specs.Prelude.{◌==◌}
use Rattle.std.specs.List.{list_all}
use Rattle.std.proofs.lemmas.Grind.{common_steps}
use Rattle.dym_report.proofs.Trims.{trimmed-take}
use Rattle.dym_report.proofs.hex_text.without_zero_blocks.Goals as goal

pub blocks-2-preserved : goal.blocks-2-preserved
blocks-2-preserved c =
    let zeros : list_all (λ b. b == 0) (drop (length c.blocks-2.rest.now - c.args.size) c.blocks-2.rest.now) ≡ true = grind (arith, common_steps) in
    rw c.split_at.ensures.front (trimmed-take c.blocks-2.rest.now (length c.blocks-2.rest.now - c.args.size) zeros ∙ c.blocks-2.invariant)
