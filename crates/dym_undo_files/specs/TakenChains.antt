-- A chain into which logs are taken again.
use Rattle.std.specs.Prelude.{◌≡◌, ℕ, ◌≤◌, List, [], length, None}
use Rattle.dym_base.specs.Objects.{LogEntry, newest}
use Rattle.dym_base.specs.declared.command.Version.{Version}
use Rattle.dym_heap.specs.Meaning.{HeapMeaning, IsSound}
use Rattle.dym_chain.specs.Chains.{ChainMeaning, Belongs}
use Rattle.dym_undo_files.specs.TakenAgain.{live_in, taken_again}

-- a heap is one of a version and a quota
pub record IsHeapOf (v : Version) (quota : ℕ) (h : HeapMeaning) : Type 0 where
  pub version_is : h.version ≡ v
  pub quota_is : h.quota ≡ quota
  pub sound : IsSound h

-- these logs were taken again into a chain, in which nothing stands below them; what is live in a heap is the newest's copy
pub record AreTaken (v : Version) (quota : ℕ) (logs : List LogEntry) (h : HeapMeaning) (c : ChainMeaning) : Type 0 where
  pub heap : IsHeapOf v quota h
  pub live : h.state.live ≡ live_in (newest c.logs)
  pub taken : c.logs ≡ taken_again logs
  pub base : c.base_logs ≡ []
  pub idle : c.lifted ≡ None
  pub count : c.made ≤ length logs
  pub belongs : Belongs v quota h.state c
