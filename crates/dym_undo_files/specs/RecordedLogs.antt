-- The logs of a file's records, and a heap and an undo log to which they are brought one by one.
use Rattle.std.specs.Prelude.{◌≡◌, ℕ, ◌≤◌, List, length, map, take, Option, None, Some, option_map}
use Rattle.std.specs.List.{AllByRecursion}
use Rattle.dym_base.specs.BaseLogs.{oldest_depth}
use Rattle.dym_base.specs.Heaps.{held}
use Rattle.dym_base.specs.Objects.{LogEntry, newest, record_of}
use Rattle.dym_base.specs.Recorded.{IsRecorded}
use Rattle.dym_base.specs.RunLaws.{EachFollows}
use Rattle.dym_base.specs.declared.command.Version.{Version}
use Rattle.dym_base.specs.declared.limits.TheConstants.{MOST_DEPTH}
use Rattle.dym_heap.specs.Meaning.{HeapMeaning}
use Rattle.dym_chain.specs.Chains.{ChainMeaning, EachKeeps, KeepsFromBefore, all_logs}
use Rattle.dym_chain.specs.Keeps.{bytes_of}
use Rattle.dym_chain.specs.Lawful.{logged_of}
use Rattle.dym_ckpt.specs.FileReads.{heap_at}
use Rattle.dym_undo.specs.UndoLogs.{UndoMeaning, Belongs, unfound}
use Rattle.dym_undo_files.specs.TakenChains.{IsHeapOf}

-- the records of a chain can be read one after the other, as those of its logs, in a version and within a quota: the first log is
-- full, and each later one follows the one before it and keeps from it what it didn't find touched
pub record IsReadable (v : Version) (quota : ℕ) (c : ChainMeaning) : Type 0 where
  pub idle : c.lifted ≡ None
  pub records : bytes_of c.records ≡ map (record_of v) (all_logs c)
  pub recorded : AllByRecursion (λ (e : LogEntry). IsRecorded (logged_of v e)) (all_logs c)
  pub within : AllByRecursion (λ (e : LogEntry). held e.copy ≤ quota) (all_logs c)
  pub shallow : AllByRecursion (λ (e : LogEntry). e.depth ≤ MOST_DEPTH) (all_logs c)
  pub base : length c.base_logs ≡ oldest_depth c.logs
  pub full : oldest_depth (all_logs c) ≡ 0
  pub follows : EachFollows (all_logs c)
  pub keeps : EachKeeps (all_logs c)

-- the first n of these logs were brought to two heaps, which are as the last of them, and taken into an undo log of the first heap
pub record AreBrought (v : Version) (quota : ℕ) (logs : List LogEntry) (n : ℕ) (heap scratch : HeapMeaning) (undo : UndoMeaning) : Type 0 where
  pub heap_of : IsHeapOf v quota heap
  pub scratch_of : IsHeapOf v quota scratch
  pub heap_is : heap.state ≡ heap_at (newest (take n logs))
  pub scratch_is : scratch.state ≡ heap_at (newest (take n logs))
  pub newest_is : newest undo.logs ≡ option_map unfound (newest (take n logs))
  pub belongs : Belongs v quota heap.state undo

-- a log may stand behind that before it: it keeps from it what it didn't find touched, and where there is none it is full
abbrev pub StandsOn : Option LogEntry → LogEntry → Type 0
StandsOn None e = e.depth ≡ 0
StandsOn (Some before) e = KeepsFromBefore before e
