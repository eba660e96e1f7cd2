use Rattle.std.proofs.Common.{◌≡◌, ℕ, ◌<◌, ◌≤◌}
use Rattle.dym_pack.specs.Areas.{area_at}
use Rattle.dym_pack.specs.ParsedAreas.{OfLog}
use Rattle.dym_ckpt.specs.RecordOrder.{named}
use Rattle.dym_ckpt.proofs.record_order.place_within.Given as goal

abbrev pub invariant-loop-place : goal.invariant-loop-place
invariant-loop-place l = OfLog l.rec (λ log. (place : ℕ) → l.from ≤ place → place < l.place → area_at log.copy place ≡ named l.exp l.ordinal → ⊥)
