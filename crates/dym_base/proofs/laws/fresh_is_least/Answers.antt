use Rattle.dym_base.proofs.Heaps.{fresh_free, below_fresh}
use Rattle.dym_base.proofs.laws.fresh_is_least.Goals as goal

pub returns-clause-free : goal.returns-clause-free
returns-clause-free c = fresh_free

pub returns-clause-least : goal.returns-clause-least
returns-clause-least c = below_fresh
