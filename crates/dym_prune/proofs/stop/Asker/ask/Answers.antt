use Rattle.std.proofs.Common.{rules}
use Rattle.dym_prune.proofs.Moves.{may_ask}
use Rattle.dym_prune.proofs.stop.Asker.ask.Goals as goal

pub store-requires : goal.store-requires
store-requires c = (search rules, search rules, may_ask _ _ _ c.self.inside.asks)
