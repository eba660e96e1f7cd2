-- A record of a version within a quota, and the lists of records that later ones may stand on.
use Rattle.std.specs.Prelude.{◌≡◌, ⊤, ℕ, suc, ◌<◌, ◌≤◌, true, false, List, [], ◌∷◌, map, take, drop}
use Rattle.std.specs.List.{AllByRecursion}
use Rattle.std.specs.FinMap.{contains_key}
use Rattle.dym_base.specs.declared.limits.TheConstants.{MOST_DEPTH}
use Rattle.dym_base.specs.Heaps.{held}
use Rattle.dym_base.specs.Packed.{Logged, packs_by, packed}
use Rattle.dym_base.specs.Recorded.{IsRecorded}
use Rattle.dym_base.specs.declared.command.Version.{Version}
use Rattle.dym_base.specs.declared.command.Kind.{Kind}
use Rattle.dym_base.specs.declared.command.Kind.TheVariants.{Full, Inc}

-- the log can be held by a record of this version within this quota
pub record IsLogOf (v : Version) (quota : ℕ) (log : Logged) : Type 0 where
  pub recorded : IsRecorded log
  pub version : log.version ≡ v
  pub within : held log.copy ≤ quota

-- the bytes are a record of a version within a quota: those of such a log. By the form of `packed` exponents and ordinals rise
-- without a gap, the last area of each class has a used chunk, bits past the last chunk are clear, and nothing follows the last
-- chunk. By `IsRecorded` touched bits are set only where use bits are, and each chunk's length is one of its class
abbrev pub IsRecordOf : Version → ℕ → List ℕ → Type 0
IsRecordOf v quota bytes = (log : Logged) × IsLogOf v quota log × (packed log ≡ bytes)

-- how many records a record stands after the last full one, where the one before it stands n after it
abbrev pub depth_after : ℕ → Kind → ℕ
depth_after n Full = 0
depth_after n Inc = suc n

-- the depths of logs that stand behind a log of depth n
abbrev pub depths_from : ℕ → List Logged → List ℕ
depths_from n [] = []
depths_from n (log ∷ logs) = depth_after n log.kind ∷ depths_from (depth_after n log.kind) logs

-- the first log, if there is one, is full
abbrev pub StartsFull : List Logged → Type 0
StartsFull [] = ⊤
StartsFull (log ∷ logs) = log.kind ≡ Full

-- a log may stand behind another: it is later, and where it is incremental each chunk that it uses and doesn't pack is used there
pub record MayFollow (before log : Logged) : Type 0 where
  pub later : before.time < log.time
  pub based : log.kind ≡ Inc → (k : ℕ) → contains_key log.copy k ≡ true → packs_by log.kind log.copy log.found k ≡ false → contains_key before.copy k ≡ true

abbrev pub FirstMayFollow : Logged → List Logged → Type 0
FirstMayFollow before [] = ⊤
FirstMayFollow before (log ∷ logs) = MayFollow before log

-- each log may stand behind the one before it
abbrev pub EachMayFollow : List Logged → Type 0
EachMayFollow [] = ⊤
EachMayFollow (log ∷ logs) = FirstMayFollow log logs × EachMayFollow logs

-- logs of one version, the first full, the next d incremental, at most 31 incremental ones behind a full one, each such as may
-- stand behind the one before it
pub record IsLawful (v : Version) (d : ℕ) (logs : List Logged) : Type 0 where
  pub recorded : AllByRecursion IsRecorded logs
  pub version : AllByRecursion (λ log. log.version ≡ v) logs
  pub full : StartsFull logs
  pub base : AllByRecursion (λ log. log.kind ≡ Inc) (take d (drop 1 logs))
  pub shallow : AllByRecursion (λ depth. depth ≤ MOST_DEPTH) (depths_from 0 logs)
  pub follow : EachMayFollow logs

-- a lawful list of records with the depth d of the oldest kept log
abbrev pub IsLawfulList : Version → ℕ → List (List ℕ) → Type 0
IsLawfulList v d records = (logs : List Logged) × IsLawful v d logs × (map packed logs ≡ records)
