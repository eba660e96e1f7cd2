use Rattle.std.proofs.Common.{rules}
use Rattle.dym_base.specs.declared.limits.TheConstants.{LOG_SLOTS}
use Rattle.dym_slots.proofs.OwnerMoves.{looks}
use Rattle.dym_slots.proofs.Stepping.{looked_at}
use Rattle.dym_slots.proofs.owner_steps.look.Goals as goal

pub load-requires : goal.load-requires
load-requires c = (search rules, search rules, looks LOG_SLOTS _ _ _ _ c.requires.owner c.requires.slot)

pub returns : goal.returns
returns c = record { table = c.load.ensures.0; look = looked_at _ _ _ _ _ c.load.ensures.2 c.of_word.ensures.shown }
