use Rattle.std.proofs.Common.{◌≡◌, None, replicate, vec_len, vec_capacity}
use Rattle.dym_pool.proofs.result_slots.open_slots.Given as goal

abbrev pub invariant-loop : goal.invariant-loop
invariant-loop g l = (l.slots.items ≡ replicate l.counter None) × (vec_len l.slots ≡ l.counter) × (vec_capacity l.slots ≡ l.count)
