-- An object as a checkpoint file, and back.
use Rattle.std.specs.Prelude.{◌≡◌, ◌⊎◌, ℕ, ◌++◌, nat_lt, if◌then◌else◌, List, length, drop, Option, None, Some}
use Rattle.std.specs.Bool.{MatchBool}
use Rattle.dym_base.specs.Files.{FailsAt}
use Rattle.dym_base.specs.Names.{is_name}
use Rattle.dym_ckpt.specs.FileRecords.{BeginsWell}
use Rattle.dym_quota.specs.Bound.{region_origin}
use Rattle.dym_undo_files.specs.LoadedLogs.{IsLoadedUndo}
use Rattle.dym_undo_files.specs.TakenAgain.{file_taken_again}
use Rattle.dym_undo_object.specs.Meaning.{UndoObjectMeaning}

-- the file of an object's kept logs, taken again, under a name
abbrev pub file_of_object : List ℕ → UndoObjectMeaning → List ℕ
file_of_object name o = file_taken_again name o.heap.quota o.heap.version o.logs

-- a file is written to where bytes begin: 4 where it has no room there, and its length is told in both cases
pub record IsCopied (file : List ℕ) (status : ℕ) (bytes new : List ℕ) (out_value : ℕ) : Type 0 where
  pub answer : status ≡ (if nat_lt (length bytes) (length file) then 4 else 0)
  pub copy : new ≡ (if nat_lt (length bytes) (length file) then bytes else file ++ drop (length file) bytes)
  pub length_told : out_value ≡ length file

-- nothing was told or written
abbrev pub IsUnchangedOut : List ℕ → List ℕ → ℕ → ℕ → Type 0
IsUnchangedOut bytes new before out_value = (new ≡ bytes) × (out_value ≡ before)

-- an open object is written, unless memory was wanting
abbrev IsSavingRightly : Option UndoObjectMeaning → List ℕ → ℕ → List ℕ → List ℕ → ℕ → ℕ → Type 0
IsSavingRightly None name status bytes new before out_value = (status ≡ 11) × IsUnchangedOut bytes new before out_value
IsSavingRightly (Some o) name status bytes new before out_value =
    IsCopied (file_of_object name o) status bytes new out_value ⊎ ((status ≡ 8) × IsUnchangedOut bytes new before out_value)

-- it is written under a name
abbrev pub IsSaving : Option UndoObjectMeaning → List ℕ → ℕ → List ℕ → List ℕ → ℕ → ℕ → Type 0
IsSaving old name status bytes new before out_value =
    MatchBool (is_name name) (IsSavingRightly old name status bytes new before out_value) ((status ≡ 9) × IsUnchangedOut bytes new before out_value)

-- the object is one that was made of a file, over the segments of a region: its logs are the file's, and no command was run
abbrev pub IsLoadedObject : List ℕ → UndoObjectMeaning → Type 0
IsLoadedObject bytes o = ((name : List ℕ) × IsLoadedUndo bytes name o.heap o.logs) × (o.ran ≡ 0) × ((region : ℕ) × (o.heap.origin ≡ region_origin region))

-- what an opening by a file leaves: the object of the file; or none, where memory was wanting behind a good header, or with the first
-- part that fails
abbrev pub IsFilled : List ℕ → ℕ → Option UndoObjectMeaning → ℕ → ℕ → Type 0
IsFilled bytes status (Some o) before part = (status ≡ 0) × (part ≡ before) × IsLoadedObject bytes o
IsFilled bytes status None before part = ((status ≡ 8) × (part ≡ before) × BeginsWell bytes) ⊎ ((status ≡ 12) × FailsAt bytes part)

-- only a closed object is opened by a file
abbrev pub IsLoading : Option UndoObjectMeaning → List ℕ → ℕ → Option UndoObjectMeaning → ℕ → ℕ → Type 0
IsLoading None bytes status new before part = IsFilled bytes status new before part
IsLoading (Some o) bytes status new before part = (status ≡ 11) × (new ≡ Some o) × (part ≡ before)
