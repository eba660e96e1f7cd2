-- A heap and its undo log that were made of a file.
use Rattle.std.specs.Prelude.{◌≡◌, ℕ, List}
use Rattle.dym_base.specs.Files.{FileHead, IsFile}
use Rattle.dym_base.specs.Objects.{LogEntry, newest}
use Rattle.dym_heap.specs.Meaning.{HeapMeaning}
use Rattle.dym_chain.specs.AdoptedLogs.{AreEntriesOf}
use Rattle.dym_ckpt.specs.FileReads.{heap_at}

-- what was made of a file: the name of its header; the kept logs that its records say, whatever stands below them; and a heap of its
-- version and quota, wherever its segments come from, as the newest of these logs has it
pub record IsLoadedUndo (bytes : List ℕ) (name : List ℕ) (heap : HeapMeaning) (logs : List LogEntry) : Type 0 where
  pub head : FileHead
  pub records : List (List ℕ)
  pub base_logs : List LogEntry
  pub file : IsFile bytes head records
  pub name_is : name ≡ head.name
  pub entries : AreEntriesOf head.depth records base_logs logs
  pub heap_is : heap ≡ record {
    version = head.version;
    quota = head.quota;
    state = heap_at (newest logs);
    held_ids = heap.held_ids;
    origin = heap.origin;
    applied = 0;
  }
