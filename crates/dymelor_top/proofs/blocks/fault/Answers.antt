use Rattle.std.proofs.Common.{subst, sym}
use Rattle.dym_script.specs.Answers.{FailsSo}
use Rattle.dymelor_top.specs.Blocks.{TakesBytes}
use Rattle.dymelor_top.proofs.ReadBlocks.{fault_told, long_told}
use Rattle.dymelor_top.proofs.blocks.fault.Goals as goal

pub returns-then-all-gt-MOST_INPUT_BYTES-clause-outcome : goal.returns-then-all-gt-MOST_INPUT_BYTES-clause-outcome
returns-then-all-gt-MOST_INPUT_BYTES-clause-outcome g c front len faulty =
    let old = g.R.Source.left c.args.source.now in
    let new = g.R.Source.left c.drain.new.source in
    subst (λ e. TakesBytes front old new (FailsSo e)) (sym c.too_long.ensures)
    (long_told c.args.pulled c.in_ok-all.all front old new c.in_ok-all.ensures.drained c.if-all-gt-MOST_INPUT_BYTES.true len)

pub returns-clause-outcome : goal.returns-clause-outcome
returns-clause-outcome g c front len faulty =
    fault_told c.args.pulled c.args.line c.in_ok-all.all c.args.kind front (g.R.Source.left c.args.source.now) (g.R.Source.left c.drain.new.source)
    c.in_ok-all.ensures.drained c.if-all-gt-MOST_INPUT_BYTES.false len faulty
