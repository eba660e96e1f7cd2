use Rattle.std.proofs.Common.{ℕ, ◌<◌}
use Rattle.dym_pack.specs.ParsedAreas.{OfLog}
use Rattle.dym_ckpt.specs.RecordOrder.{AreaIsBased}
use Rattle.dym_ckpt.proofs.record_order.is_based.Given as goal

abbrev pub invariant-loop-k : goal.invariant-loop-k
invariant-loop-k l = OfLog l.before (λ b. OfLog l.rec (λ log. (a : ℕ) → a < l.k → AreaIsBased b log a))
