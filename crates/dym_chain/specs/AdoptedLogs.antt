-- The logs that records say, where they are a lawful list: each with the map that the records from the last full one up to its own
-- stand for.
use Rattle.std.specs.Prelude.{◌≡◌, ℕ, List, [], ◌∷◌, ◌++◌, map, take, drop, unwrap_or}
use Rattle.std.specs.List.{AllByRecursion}
use Rattle.std.specs.FinMap.{entries, from_entries}
use Rattle.dym_base.specs.BaseLogs.{oldest_depth}
use Rattle.dym_base.specs.Heaps.{Live, HeapState}
use Rattle.dym_base.specs.LawfulLists.{IsRecordOf, IsLawful, IsLawfulList, depth_after}
use Rattle.dym_base.specs.Objects.{LogEntry, newest, found_touched}
use Rattle.dym_base.specs.Packed.{Logged, packed}
use Rattle.dym_base.specs.StandsFor.{newest_packed}
use Rattle.dym_base.specs.declared.command.Version.{Version}
use Rattle.dym_base.specs.declared.command.Kind.{Kind}
use Rattle.dym_base.specs.declared.command.Kind.TheVariants.{Full, Inc}
use Rattle.dym_pack.specs.Areas.{found_by}
use Rattle.dym_chain.specs.Chains.{ChainMeaning, KeepsFromNewest, Belongs}
use Rattle.dym_chain.specs.Keeps.{bytes_of}
use Rattle.dym_chain.specs.KeptRecords.{AreKeptRecords}
use Rattle.dym_chain.specs.Lawful.{entry_of}
use Rattle.dym_chain.specs.declared.entry.Entry.{Entry}

-- what logs stand for, the last of which has these handles: each handle has the bytes of the newest log that packs it
unfoldable pub stood_for : List Logged → Live → Live
stood_for logs last = from_entries (map (λ (e : ℕ × List ℕ). (e.0, unwrap_or (newest_packed logs e.0) [])) (entries last))

-- the logs from the last full one up to a log of this kind, where those up to the one before it are given
abbrev pub run_to : Kind → List Logged → Logged → List Logged
run_to Full before log = log ∷ []
run_to Inc before log = before ++ log ∷ []

-- a log n behind the last full one, where `run` are the logs from that one up to it: found are the handles that it packs, and none
-- where it is full
abbrev pub entry_in : ℕ → List Logged → Logged → LogEntry
entry_in n run log = record { time = log.time; depth = n; copy = stood_for run log.copy; found = found_by log.kind log.found }

-- what logs say that stand behind a log of depth n, where `before` are the logs from the last full one up to that one
abbrev pub entries_from : ℕ → List Logged → List Logged → List LogEntry
entries_from n before [] = []
entries_from n before (log ∷ logs) =
    let depth = depth_after n log.kind in
    let run = run_to log.kind before log in
    entry_in depth run log ∷ entries_from depth run logs

-- what logs say
abbrev pub entries_of : List Logged → List LogEntry
entries_of logs = entries_from 0 [] logs

-- these are what the records of a lawful list say, whichever logs they are read as: the first ones stand below, and the others are
-- kept
abbrev pub AreEntriesOf : ℕ → List (List ℕ) → List LogEntry → List LogEntry → Type 0
AreEntriesOf first records base_logs kept =
    (v : Version) (logs : List Logged) → IsLawful v first logs → map packed logs ≡ records
    → (base_logs ≡ take first (entries_of logs)) × (kept ≡ drop first (entries_of logs))

-- these are the times and depths of what is kept of them
abbrev pub AreKeptTimes : ℕ → List (List ℕ) → List Entry → Type 0
AreKeptTimes first records entries =
    (v : Version) (logs : List Logged) → IsLawful v first logs → map packed logs ≡ records → entries ≡ map entry_of (drop first (entries_of logs))

-- the records are a lawful list, of some version
abbrev pub AreLawful : ℕ → List (List ℕ) → Type 0
AreLawful first records = (v : Version) × IsLawfulList v first records

-- the chain belongs to each heap of which its records can be, where what wasn't touched is as in the newest copy: so to an empty one
abbrev pub BelongsByRecords : ChainMeaning → Type 0
BelongsByRecords c =
    (v : Version) (quota : ℕ) (s : HeapState) → AllByRecursion (IsRecordOf v quota) (bytes_of c.records) → KeepsFromNewest s (newest c.logs)
    → Belongs v quota s c

-- a log as its record says it: what a full one found touched isn't said
abbrev pub as_said : LogEntry → LogEntry
as_said e = record { time = e.time; depth = e.depth; copy = e.copy; found = found_touched e.depth e.found }

-- what the records of kept logs say are those logs
abbrev pub RecordsSayTheirLogs : Type 0
RecordsSayTheirLogs =
    (c : ChainMeaning) (base_logs kept : List LogEntry) → AreKeptRecords c → AreEntriesOf (oldest_depth c.logs) (bytes_of c.records) base_logs kept
    → (base_logs ≡ map as_said c.base_logs) × (kept ≡ map as_said c.logs)

-- a chain over the same records whose logs are what these say belongs to each heap to which the kept logs belong
abbrev pub ReadLogsBelong : Type 0
ReadLogsBelong =
    (v : Version) (quota : ℕ) (s : HeapState) (c d : ChainMeaning) → AreKeptRecords c → AreKeptRecords d → d.records ≡ c.records
    → AreEntriesOf (oldest_depth c.logs) (bytes_of c.records) d.base_logs d.logs → Belongs v quota s c → Belongs v quota s d
