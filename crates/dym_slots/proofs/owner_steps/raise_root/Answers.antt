use Rattle.std.proofs.Common.{rules}
use Rattle.dym_base.specs.declared.limits.TheConstants.{LOG_SLOTS}
use Rattle.dym_slots.proofs.OwnerMoves.{raises}
use Rattle.dym_slots.proofs.owner_steps.raise_root.Goals as goal

pub store-requires : goal.store-requires
store-requires c = (search rules, search rules, raises LOG_SLOTS _ _ _ c.args.number c.requires.listed c.requires.idle)
