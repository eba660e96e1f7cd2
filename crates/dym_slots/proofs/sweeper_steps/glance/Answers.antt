use Rattle.std.proofs.Common.{rules}
use Rattle.dym_base.specs.declared.limits.TheConstants.{LOG_SLOTS}
use Rattle.dym_slots.proofs.SweeperMoves.{sweeper_looks}
use Rattle.dym_slots.proofs.SweeperSays.{glanced_at}
use Rattle.dym_slots.proofs.sweeper_steps.glance.Goals as goal

pub load-requires : goal.load-requires
load-requires c = (search rules, search rules, sweeper_looks LOG_SLOTS _ _ _ _ c.requires.idle c.requires.turn c.requires.slot)

pub returns : goal.returns
returns c = record { table = c.load.ensures.0; after = glanced_at _ _ _ _ c.load.ensures.2 c.of_word.ensures.shown }
