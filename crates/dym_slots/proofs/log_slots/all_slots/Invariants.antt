use Rattle.std.proofs.Common.{◌≡◌, map, vec_len, vec_capacity}
use Rattle.std.specs.List.{range_with_len}
use Rattle.dym_base.specs.declared.limits.TheConstants.{LOG_SLOTS}
use Rattle.dym_slots.proofs.log_slots.all_slots.Given as goal

abbrev pub invariant-loop-slot : goal.invariant-loop-slot
invariant-loop-slot l = (l.order.items ≡ map (λ s. s) (range_with_len 0 l.slot)) × (vec_len l.order ≡ l.slot) × (vec_capacity l.order ≡ LOG_SLOTS)
