use Rattle.std.proofs.Common.{rules, ap}
use Rattle.dym_base.specs.declared.limits.TheConstants.{LOG_SLOTS}
use Rattle.dym_slots.specs.TableStates.{Knowing}
use Rattle.dym_slots.proofs.Opening.{begins, splits}
use Rattle.dym_slots.proofs.log_slots.LogSlots.open.Goals as goal

pub vacant-requires : goal.vacant-requires
vacant-requires c = begins LOG_SLOTS

pub split_seat-second-requires : goal.split_seat-second-requires
split_seat-second-requires c = (search rules, search rules, splits LOG_SLOTS _ _ (ap (λ (m : Knowing). m.0) c.in_ok-table.ensures.4))
