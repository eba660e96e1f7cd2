use Rattle.std.proofs.Common.{rules}
use Rattle.dym_base.specs.declared.limits.TheConstants.{LOG_SLOTS}
use Rattle.dym_slots.proofs.SweeperMoves.{reads_root}
use Rattle.dym_slots.proofs.sweeper_steps.read_root.Goals as goal

pub load-requires : goal.load-requires
load-requires c = (search rules, search rules, reads_root LOG_SLOTS _ _ _ c.requires.idle)
