-- Logs that are saved.
use Rattle.std.specs.Prelude.{◌≡◌, ℕ, ◌≤◌, List, map, drop, IsTrue}
use Rattle.std.specs.List.{AllByRecursion, flat_map}
use Rattle.dym_base.specs.Files.{file_of, framed}
use Rattle.dym_base.specs.Heaps.{held}
use Rattle.dym_base.specs.Names.{is_name}
use Rattle.dym_base.specs.Objects.{LogEntry, ObjectState, record_of}
use Rattle.dym_base.specs.declared.limits.TheConstants.{MOST_QUOTA}
use Rattle.dym_base.specs.declared.command.Version.{Version}
use Rattle.dym_slots.specs.Meanings.{Numbered}
use Rattle.dym_chain.specs.Chains.{ChainMeaning, all_logs}
use Rattle.dym_chain.specs.AdoptedLogs.{as_said}
use Rattle.dym_chain.specs.Keeps.{bytes_of}
use Rattle.dym_chain.specs.KeptRecords.{AreKeptRecords}
use Rattle.dym_ckpt.specs.declared.file_reader.Loaded.{Loaded}

-- the records are those of the logs in a version
abbrev pub AreOf : Version → ChainMeaning → Type 0
AreOf v c = bytes_of c.records ≡ map (record_of v) (all_logs c)

-- the file of the logs
abbrev pub file_of_logs : List ℕ → ℕ → Version → ChainMeaning → List ℕ
file_of_logs name quota v c = file_of name quota v c.base_logs c.logs

-- the records from a place on, as they stand in a file
abbrev pub framed_from : ℕ → List Numbered → List ℕ
framed_from place records = flat_map framed (bytes_of (drop place records))

-- the kept logs of an object of this name, quota and version
pub record MayBeSaved (name : List ℕ) (quota : ℕ) (v : Version) (c : ChainMeaning) : Type 0 where
  pub named : IsTrue (is_name name)
  pub some_quota : 1 ≤ quota
  pub most : quota ≤ MOST_QUOTA
  pub kept : AreKeptRecords c
  pub are : AreOf v c
  pub within : AllByRecursion (λ (e : LogEntry). held e.copy ≤ quota) (all_logs c)

-- the heap of an object, its kept logs and those below them are each within a quota
pub record AreWithinQuota (quota : ℕ) (s : ObjectState) (base_logs : List LogEntry) : Type 0 where
  pub heap : held s.heap.live ≤ quota
  pub logs : AllByRecursion (λ (e : LogEntry). held e.copy ≤ quota) s.logs
  pub base : AllByRecursion (λ (e : LogEntry). held e.copy ≤ quota) base_logs

-- what was loaded is what was saved: the name, the quota, the version and the records, and of each log the time, the depth and the copy
pub record ComesBack (name : List ℕ) (quota : ℕ) (v : Version) (c : ChainMeaning) (loaded : Loaded) : Type 0 where
  pub name_is : loaded.name ≡ name
  pub quota_is : loaded.heap.quota ≡ quota
  pub version_is : loaded.heap.version ≡ v
  pub records_are : bytes_of loaded.chain.records ≡ bytes_of c.records
  pub below_is : loaded.chain.base_logs ≡ map as_said c.base_logs
  pub logs_are : loaded.chain.logs ≡ map as_said c.logs
