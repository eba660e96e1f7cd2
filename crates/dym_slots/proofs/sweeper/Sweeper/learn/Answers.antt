use Rattle.std.proofs.Common.{rules, ap}
use Rattle.dym_base.specs.declared.limits.TheConstants.{LOG_SLOTS}
use Rattle.dym_slots.specs.TableStates.{Knowing}
use Rattle.dym_slots.proofs.NoteMoves.{learns_root}
use Rattle.dym_slots.proofs.sweeper.Sweeper.learn.Goals as goal

pub join_seat-requires : goal.join_seat-requires
join_seat-requires c =
    (search rules, search rules, search rules, search rules, learns_root LOG_SLOTS _ _ _ _ c.self.invariant.idle.seat (ap (λ (m : Knowing). m.0) c.note.invariant))
