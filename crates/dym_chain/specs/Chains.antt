-- What a chain of logs stands for, and what it has in common with the heap that its logs were taken from.
use Rattle.std.specs.Prelude.{⊤, ◌≡◌, ℕ, ◌+◌, ◌-◌, ◌<◌, ◌≤◌, true, false, List, [], ◌∷◌, ◌++◌, length, map, take, drop, slice_index_or, Option, None, Some}
use Rattle.std.specs.List.{AllByRecursion}
use Rattle.std.specs.FinMap.{get, contains_key}
use Rattle.std.specs.FinMap as map
use Rattle.std.specs.FinSet.{contains}
use Rattle.std.specs.FinSet as set
use Rattle.dym_base.specs.Heaps.{Live, Touched, HeapState, held}
use Rattle.dym_base.specs.BaseLogs.{oldest_depth}
use Rattle.dym_base.specs.Objects.{LogEntry, ObjectState, record_of, newest, reached}
use Rattle.dym_base.specs.Origins.{Origin}
use Rattle.dym_base.specs.StandsFor.{StandsFor}
use Rattle.dym_base.specs.declared.command.Version.{Version}
use Rattle.dym_slots.specs.Meanings.{Numbered}
use Rattle.dym_chain.specs.Keeps.{bytes_of}

-- a chain: the logs before the oldest kept one that later restores read, the kept logs, oldest first, the records of all of
-- them, the number that the next record gets, the place whose record is out, and where the records have their room
pub record ChainMeaning : Type 0 where
  pub base_logs : List LogEntry
  pub logs : List LogEntry
  pub records : List Numbered
  pub made : ℕ
  pub lifted : Option ℕ
  pub origin : Origin

-- the logs whose records stand
abbrev pub all_logs : ChainMeaning → List LogEntry
all_logs c = c.base_logs ++ c.logs

-- what stands at a place past the end
abbrev pub no_entry : LogEntry
no_entry = record { time = 0; depth = 0; copy = map.empty; found = set.empty }

-- log k
abbrev pub log_at : List LogEntry → ℕ → LogEntry
log_at logs k = slice_index_or logs k no_entry

-- the handles of a map that weren't touched since another have the bytes that they had there
abbrev pub KeepsUntouched : Live → Touched → Live → Type 0
KeepsUntouched live touched before =
    (k : ℕ) → contains_key live k ≡ true → contains touched k ≡ false → get before k ≡ get live k

-- a log that is not full keeps what it didn't find touched from the log before it
abbrev pub KeepsFromBefore : LogEntry → LogEntry → Type 0
KeepsFromBefore before entry = 0 < entry.depth → KeepsUntouched entry.copy entry.found before.copy

-- each log that is neither the first nor full keeps what it didn't find touched from the log before it
abbrev pub FirstKeeps : LogEntry → List LogEntry → Type 0
FirstKeeps e [] = ⊤
FirstKeeps e (f ∷ fs) = KeepsFromBefore e f

abbrev pub EachKeeps : List LogEntry → Type 0
EachKeeps [] = ⊤
EachKeeps (e ∷ es) = FirstKeeps e es × EachKeeps es

-- whatever newest log there is, live has what wasn't touched since
abbrev pub KeepsFromNewest : HeapState → Option LogEntry → Type 0
KeepsFromNewest s None = ⊤
KeepsFromNewest s (Some entry) = KeepsUntouched s.live s.touched entry.copy

-- the records from the last full one up to that of kept log k
abbrev pub records_to : ChainMeaning → ℕ → List (List ℕ)
records_to c k =
    let depth = (log_at c.logs k).depth in
    take (depth + 1) (drop (oldest_depth c.logs + k - depth) (bytes_of c.records))

-- ChainStandsForCopies: for each kept log the records from the last full one up to its own stand for its copy
abbrev pub StandsForCopies : ChainMeaning → Type 0
StandsForCopies c = (k : ℕ) → k < length c.logs → StandsFor (records_to c k) (log_at c.logs k).copy

-- what a chain and the heap that its logs were taken from have in common
pub record Belongs (v : Version) (quota : ℕ) (s : HeapState) (c : ChainMeaning) : Type 0 where
  -- the records are those of the logs, in the heap's version
  pub records : bytes_of c.records ≡ map (record_of v) (all_logs c)
  -- each handle of live that isn't touched has the newest copy's bytes
  pub untouched : KeepsFromNewest s (newest c.logs)
  -- each handle of a kept copy, but for the oldest and the full ones, that its log didn't find touched has the bytes that it had in
  -- the copy before
  pub keeps : EachKeeps c.logs
  -- each kept copy is within the quota
  pub within : AllByRecursion (λ (e : LogEntry). held e.copy ≤ quota) c.logs

-- a heap and the logs of a chain, as an object
abbrev pub object_of : HeapState → ChainMeaning → ObjectState
object_of s c = record { heap = s; logs = c.logs }

-- the chain with one log more, whose record got the number that was next
abbrev pub logged : Version → LogEntry → ChainMeaning → ChainMeaning
logged v entry c = record {
  base_logs = c.base_logs;
  logs = c.logs ++ entry ∷ [];
  records = c.records ++ record { number = c.made; bytes = record_of v entry } ∷ [];
  made = c.made + 1;
  lifted = c.lifted;
  origin = c.origin;
}

-- the logs that a prune at g leaves, and how many records it drops: those before the full log of the oldest that is left
abbrev pub left_by : ℕ → List LogEntry → List LogEntry
left_by g logs = drop (reached g logs - 1) logs

abbrev pub gone_by : ℕ → ChainMeaning → ℕ
gone_by g c = length c.base_logs + (reached g c.logs - 1) - oldest_depth (left_by g c.logs)

-- the chain after a prune at g
abbrev pub pruned : ChainMeaning → ℕ → ChainMeaning
pruned c g = record {
  base_logs = take (oldest_depth (left_by g c.logs)) (drop (gone_by g c) (all_logs c));
  logs = left_by g c.logs;
  records = drop (gone_by g c) c.records;
  made = c.made;
  lifted = c.lifted;
  origin = c.origin;
}
