-- A heap and its logs that were made of a file.
use Rattle.std.specs.Prelude.{◌≡◌, ℕ, List, length, Option, None, Some}
use Rattle.std.specs.FinSet as set
use Rattle.dym_base.specs.Files.{FileHead, IsFile}
use Rattle.dym_base.specs.Heaps.{HeapState}
use Rattle.dym_base.specs.Objects.{LogEntry, newest, empty_heap}
use Rattle.dym_base.specs.Origins.{own}
use Rattle.dym_heap.specs.Meaning.{IsSound}
use Rattle.dym_chain.specs.AdoptedLogs.{AreEntriesOf}
use Rattle.dym_chain.specs.Chains.{Belongs, StandsForCopies}
use Rattle.dym_chain.specs.Keeps.{bytes_of}
use Rattle.dym_ckpt.specs.Heads.{header_meaning}
use Rattle.dym_ckpt.specs.Lists.{IsListed}
use Rattle.dym_ckpt.specs.declared.file_reader.FileContent.{FileContent}
use Rattle.dym_ckpt.specs.declared.file_reader.Loaded.{Loaded}

-- the header and the records of a file's bytes
pub record IsContentOf (bytes : List ℕ) (content : FileContent) : Type 0 where
  pub file : IsFile bytes (header_meaning content.head) (bytes_of content.record_list.keep.records)
  pub listed : IsListed content.head.version content.head.depth content.record_list

-- the heap as a log has it, of which nothing is touched, and the empty one where there is no log
abbrev pub heap_at : Option LogEntry → HeapState
heap_at None = empty_heap
heap_at (Some e) = record { live = e.copy; touched = set.empty }

-- what was made of a file: the name of its header; its records, in a keep of their own, and the logs that these say; and a heap of
-- its version and quota, wherever its segments come from, as the newest of these logs has it
pub record IsLoaded (bytes : List ℕ) (loaded : Loaded) : Type 0 where
  pub head : FileHead
  pub records : List (List ℕ)
  pub file : IsFile bytes head records
  pub name : loaded.name ≡ head.name
  pub entries : AreEntriesOf head.depth records loaded.chain.base_logs loaded.chain.logs
  pub are : bytes_of loaded.chain.records ≡ records
  pub chain : loaded.chain ≡ record loaded.chain { made = length records; lifted = None; origin = own }
  pub heap : loaded.heap ≡ record {
    version = head.version;
    quota = head.quota;
    state = heap_at (newest loaded.chain.logs);
    held_ids = loaded.heap.held_ids;
    origin = loaded.heap.origin;
    applied = 0;
  }
  pub belongs : Belongs loaded.heap.version loaded.heap.quota loaded.heap.state loaded.chain
  pub stands : StandsForCopies loaded.chain
  pub sound : IsSound loaded.heap
