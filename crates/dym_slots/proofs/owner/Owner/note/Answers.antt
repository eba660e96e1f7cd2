use Rattle.std.proofs.Common.{rules}
use Rattle.dym_base.specs.declared.limits.TheConstants.{LOG_SLOTS}
use Rattle.dym_slots.proofs.NoteMoves.{notes_root}
use Rattle.dym_slots.proofs.owner.Owner.note.Goals as goal

pub split_seat-seat-requires : goal.split_seat-seat-requires
split_seat-seat-requires c = (search rules, search rules, notes_root LOG_SLOTS _ _ c.self.invariant.stands.seat)
