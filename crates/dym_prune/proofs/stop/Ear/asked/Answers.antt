use Rattle.std.proofs.Common.{rules}
use Rattle.dym_prune.proofs.Moves.{may_listen}
use Rattle.dym_prune.proofs.stop.Ear.asked.Goals as goal

pub load-found-requires : goal.load-found-requires
load-found-requires c = (search rules, search rules, may_listen _ _ _)
