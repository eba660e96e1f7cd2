use Rattle.std.proofs.Common.{sym, ◌∙◌}
use Rattle.dym_pack.proofs.record.Record.whole.Goals as goal

pub returns-clause-is : goal.returns-clause-is
returns-clause-is c = (c.self.invariant.is.0, c.self.invariant.is.1, c.self.invariant.is.2 ∙ sym c.bytes.ensures)
