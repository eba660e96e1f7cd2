-- What a list of records stands for: a full one, and incremental ones after it.
use Rattle.std.specs.Prelude.{◌≡◌, ℕ, true, List, [], ◌∷◌, map, if◌then◌else◌, Option, None, Some}
use Rattle.std.specs.List.{AllByRecursion}
use Rattle.std.specs.FinMap.{get, contains_key}
use Rattle.dym_base.specs.Heaps.{Live}
use Rattle.dym_base.specs.Packed.{Logged, packs_by, packed}
use Rattle.dym_base.specs.Recorded.{IsRecorded}
use Rattle.dym_base.specs.declared.command.Kind.TheVariants.{Full, Inc}

-- the bytes of the chunk of number k, where the log packs it
abbrev pub packed_by : Logged → ℕ → Option (List ℕ)
packed_by log k = if packs_by log.kind log.copy log.found k then get log.copy k else None

-- the first of two, or else the second
abbrev pub or_else : Option (List ℕ) → Option (List ℕ) → Option (List ℕ)
or_else (Some bytes) other = Some bytes
or_else None other = other

-- the bytes of the chunk of number k in the newest of these logs that packs it. The logs stand oldest first
abbrev pub newest_packed : List Logged → ℕ → Option (List ℕ)
newest_packed [] k = None
newest_packed (log ∷ logs) k = or_else (newest_packed logs k) (packed_by log k)

-- a log that is full, and the incremental ones after it
abbrev pub IsChain : List Logged → Type 0
IsChain [] = ⊥
IsChain (log ∷ logs) = (log.kind ≡ Full) × AllByRecursion (λ next. next.kind ≡ Inc) logs

-- the handles of the map are those in use in the last of these logs
abbrev pub UsesLast : List Logged → Live → Type 0
UsesLast [] copy = ⊥
UsesLast (log ∷ []) copy = (k : ℕ) → contains_key copy k ≡ contains_key log.copy k
UsesLast (log ∷ next ∷ logs) copy = UsesLast (next ∷ logs) copy

-- what these logs stand for: each handle has the bytes of the newest log that packs it
pub record LogsStandFor (logs : List Logged) (copy : Live) : Type 0 where
  pub chain : IsChain logs
  pub handles : UsesLast logs copy
  pub bytes : (k : ℕ) → contains_key copy k ≡ true → newest_packed logs k ≡ get copy k

-- what records stand for: what logs of those bytes do. The logs are such as a record can hold, so that no records stand for two
-- maps
pub record StandsFor (records : List (List ℕ)) (copy : Live) : Type 0 where
  pub logs : List Logged
  pub recorded : AllByRecursion IsRecorded logs
  pub are : map packed logs ≡ records
  pub stand : LogsStandFor logs copy
