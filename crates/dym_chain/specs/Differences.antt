-- Records that stand beside those of full logs.
use Rattle.std.specs.Prelude.{⊤, ◌≡◌, ℕ, suc, ◌<◌, ◌≤◌, ◌⊎◌, true, List, length, slice_index_or, Option, None, Some}
use Rattle.std.specs.FinMap.{get, contains_key}
use Rattle.dym_base.specs.Objects.{LogEntry}
use Rattle.dym_base.specs.Packed.{Logged, packed}
use Rattle.dym_base.specs.Recorded.{IsRecorded}
use Rattle.dym_base.specs.StandsFor.{packed_by}
use Rattle.dym_chain.specs.Chains.{log_at}

-- the bytes are those of a log that packs each chunk of the copy of e that may be another than in the log before it
pub record TellsChanges (before e : LogEntry) (bytes : List ℕ) : Type 0 where
  pub log : Logged
  pub recorded : IsRecorded log
  pub are : packed log ≡ bytes
  pub keeps : (k : ℕ) → contains_key e.copy k ≡ true → packed_by log k ≡ None → get before.copy k ≡ get e.copy k

-- so are those that stand beside a log's record, where any do
abbrev pub IsDifference : LogEntry → LogEntry → Option (List ℕ) → Type 0
IsDifference before e None = ⊤
IsDifference before e (Some bytes) = TellsChanges before e bytes

-- what stands beside log k
abbrev pub difference_at : List (Option (List ℕ)) → ℕ → Option (List ℕ)
difference_at differences k = slice_index_or differences k None

-- what stands beside the logs, but for the first
pub record AreDifferences (logs : List LogEntry) (differences : List (Option (List ℕ))) : Type 0 where
  pub few : length differences ≤ length logs
  pub each : (k : ℕ) → suc k < length logs → IsDifference (log_at logs k) (log_at logs (suc k)) (difference_at differences (suc k))

-- one more for log n, these bytes or nothing
pub record HasOneMore (old new : List (Option (List ℕ))) (n : ℕ) (bytes : List ℕ) : Type 0 where
  pub few : length new ≤ suc n
  pub same : (k : ℕ) → k < n → difference_at new k ≡ difference_at old k
  pub last : (difference_at new n ≡ None) ⊎ (difference_at new n ≡ Some bytes)
