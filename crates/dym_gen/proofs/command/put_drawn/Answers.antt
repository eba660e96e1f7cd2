-- The draw is the number of the command.
use Rattle.std.proofs.Common.{◌≡◌, arith}
use Rattle.std.proofs.lemmas.Grind.{common_steps}
use Rattle.dym_gen.specs.Draws.{next, below}
use Rattle.dym_gen.proofs.command.put_drawn.Goals as goal

pub returns-in-3-clause-text : goal.returns-in-3-clause-text
returns-in-3-clause-text c =
    let drawn : below 10 (next c.args.draws.now.state) ≡ 3 = grind (arith, common_steps) in
    rw drawn (rw c.below.ensures.state at c.put_numbered.ensures.text)

pub returns-in-7-clause-text : goal.returns-in-7-clause-text
returns-in-7-clause-text c =
    let drawn : below 10 (next c.args.draws.now.state) ≡ 7 = grind (arith, common_steps) in
    rw drawn (rw c.below.ensures.state at c.put_plain-in-7.ensures.text)
