-- What the definition of files comes to. Each is the contract of a function of src/laws.rt.
use Rattle.std.specs.Prelude.{◌≡◌, ℕ, ◌≤◌, List, [], IsTrue}
use Rattle.dym_base.specs.BaseLogs.{base_logs_step, run_base_logs}
use Rattle.dym_base.specs.Files.{FileHead, IsFile, FailsAt, head_of}
use Rattle.dym_base.specs.Heaps.{HeapState}
use Rattle.dym_base.specs.Names.{is_name}
use Rattle.dym_base.specs.Objects.{LogEntry, ObjectState, object_start, object_step, run_end}
use Rattle.dym_base.specs.declared.command.Command.{Command}
use Rattle.dym_base.specs.declared.command.Version.{Version}
use Rattle.dym_base.specs.declared.limits.TheConstants.{MOST_QUOTA}
use Rattle.dym_chain.specs.Chains.{ChainMeaning, Belongs, object_of}
use Rattle.dym_chain.specs.KeptRecords.{AreKeptRecords}
use Rattle.dym_chain.specs.Keeps.{bytes_of}
use Rattle.dym_ckpt.specs.FileReads.{IsLoaded}
use Rattle.dym_ckpt.specs.SavedFiles.{AreWithinQuota, MayBeSaved, ComesBack, file_of_logs}
use Rattle.dym_ckpt.specs.declared.file_reader.Loaded.{Loaded}

-- of a file there is one reading
abbrev pub FilesHaveOneReading : Type 0
FilesHaveOneReading = (bytes : List ℕ) (g h : FileHead) (qs rs : List (List ℕ)) → IsFile bytes g qs → IsFile bytes h rs → (g ≡ h) × (qs ≡ rs)

-- no part of a file fails
abbrev pub NoFileFails : Type 0
NoFileFails = (bytes : List ℕ) (h : FileHead) (rs : List (List ℕ)) (part : ℕ) → IsFile bytes h rs → FailsAt bytes part → ⊥

-- bytes fail at one part at most
abbrev pub OnePartFails : Type 0
OnePartFails = (bytes : List ℕ) (p q : ℕ) → FailsAt bytes p → FailsAt bytes q → p ≡ q

-- what is saved is a file
abbrev pub SavedIsFile : Type 0
SavedIsFile =
    (name : List ℕ) (quota : ℕ) (v : Version) (c : ChainMeaning) → MayBeSaved name quota v c
    → IsFile (file_of_logs name quota v c) (head_of name quota v c.base_logs c.logs) (bytes_of c.records)

-- what is loaded of it is what was saved
abbrev pub SavedComesBack : Type 0
SavedComesBack =
    (name : List ℕ) (quota : ℕ) (v : Version) (c : ChainMeaning) (loaded : Loaded) → MayBeSaved name quota v c
    → IsLoaded (file_of_logs name quota v c) loaded → ComesBack name quota v c loaded

-- ---- what an object keeps may be saved

-- at its start nothing is above a quota
abbrev pub StartIsWithin : Type 0
StartIsWithin = (quota : ℕ) → AreWithinQuota quota object_start []

-- each of its commands keeps all of it within the quota
abbrev pub StepsKeepWithin : Type 0
StepsKeepWithin =
    (v : Version) (quota : ℕ) (s : ObjectState) (base_logs : List LogEntry) (command : Command) → AreWithinQuota quota s base_logs
    → AreWithinQuota quota (object_step v quota s command).object (base_logs_step base_logs s command)

-- so each run does
abbrev pub RunsAreWithin : Type 0
RunsAreWithin = (v : Version) (quota : ℕ) (commands : List Command) → AreWithinQuota quota (run_end v quota commands) (run_base_logs v quota commands)

-- what was loaded is within the quota of its file
abbrev pub LoadedIsWithin : Type 0
LoadedIsWithin =
    (bytes : List ℕ) (loaded : Loaded) → IsLoaded bytes loaded → AreKeptRecords loaded.chain
    → AreWithinQuota loaded.heap.quota (object_of loaded.heap.state loaded.chain) loaded.chain.base_logs

-- the logs of a chain that belongs to a heap may be saved where they and those below them are within the quota
abbrev pub WithinMayBeSaved : Type 0
WithinMayBeSaved =
    (name : List ℕ) (quota : ℕ) (v : Version) (s : HeapState) (c : ChainMeaning) → IsTrue (is_name name) → 1 ≤ quota → quota ≤ MOST_QUOTA
    → AreKeptRecords c → Belongs v quota s c → AreWithinQuota quota (object_of s c) c.base_logs → MayBeSaved name quota v c
