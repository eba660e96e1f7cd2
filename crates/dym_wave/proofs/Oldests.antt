-- The oldest of kept logs.
use Rattle.std.proofs.Common.{◌≡◌, ◌<◌, List, [], ◌∷◌, length, Some, None, option_map, refl, arith}
use Rattle.dym_base.specs.Objects.{LogEntry}
use Rattle.dym_chain.specs.Chains.{log_at}
use Rattle.dym_view.specs.Commits.{oldest}

pub no_time : (logs : List LogEntry) → length logs ≡ 0 → None ≡ option_map (λ (e : LogEntry). e.time) (oldest logs)
no_time [] none = refl
no_time (e ∷ logs) none = absurd (omega (arith, none))

pub first_time : (logs : List LogEntry) → 0 < length logs → Some (log_at logs 0).time ≡ option_map (λ (e : LogEntry). e.time) (oldest logs)
first_time [] some = absurd (omega arith)
first_time (e ∷ logs) some = refl
