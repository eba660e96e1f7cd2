-- Checkpoint files: the kept logs of an object, and those below them, as bytes. Numbers have their little end first.
use Rattle.std.specs.Prelude.{◌≡◌, ◌⊎◌, ℕ, ◌+◌, ◌<◌, ◌≤◌, List, [], ◌∷◌, ◌++◌, map, length, codes, IsTrue}
use Rattle.std.specs.Int.{w32, to_le_bytes}
use Rattle.std.specs.List.{AllByRecursion, flat_map}
use Rattle.dym_base.specs.declared.limits.TheConstants.{MOST_QUOTA, MOST_RECORDS, MOST_DEPTH, MOST_KEPT_LOGS}
use Rattle.dym_base.specs.Names.{is_name}
use Rattle.dym_base.specs.LawfulLists.{IsRecordOf, IsLawfulList}
use Rattle.dym_base.specs.Objects.{LogEntry, record_of, run_end}
use Rattle.dym_base.specs.BaseLogs.{oldest_depth, run_base_logs}
use Rattle.dym_base.specs.declared.command.Version.{Version}
use Rattle.dym_base.specs.declared.command.Version.TheVariants.{One, Two}
use Rattle.dym_base.specs.declared.command.Command.{Command}

-- what a file says before its records: the object's name, quota and version, how many records follow, and the depth of the oldest
-- kept log
pub record FileHead : Type 0 where
  pub name : List ℕ
  pub quota : ℕ
  pub version : Version
  pub count : ℕ
  pub depth : ℕ

abbrev pub version_number : Version → ℕ
version_number One = 1
version_number Two = 2

-- the header
unfoldable pub head_bytes : FileHead → List ℕ
head_bytes h =
    codes "DYMCKPT1"
    ++ length h.name ∷ h.name
    ++ to_le_bytes w32 h.quota
    ++ version_number h.version ∷ to_le_bytes w32 h.count
    ++ h.depth ∷ []

-- what a header may say
pub record IsFileHead (h : FileHead) : Type 0 where
  pub named : IsTrue (is_name h.name)
  pub some_quota : 1 ≤ h.quota
  pub within : h.quota ≤ MOST_QUOTA
  pub few : h.count ≤ MOST_RECORDS
  pub shallow : h.depth ≤ MOST_DEPTH
  pub kept : h.count ≤ h.depth + MOST_KEPT_LOGS
  pub none : h.count ≡ 0 → h.depth ≡ 0
  pub some : 0 < h.count → h.depth < h.count

-- a record in a file: its length in four bytes, and its bytes
abbrev pub framed : List ℕ → List ℕ
framed bytes = to_le_bytes w32 (length bytes) ++ bytes

-- bytes that begin with a good header and these good records; what is left follows them
pub record ReadsTo (bytes : List ℕ) (head : FileHead) (records : List (List ℕ)) (left : List ℕ) : Type 0 where
  pub good : IsFileHead head
  pub few : length records ≤ head.count
  pub each : AllByRecursion (IsRecordOf head.version head.quota) records
  pub lawful : IsLawfulList head.version head.depth records
  pub are : bytes ≡ head_bytes head ++ flat_map framed records ++ left

-- the bytes are a file: all records are there, and nothing is left
pub record IsFile (bytes : List ℕ) (head : FileHead) (records : List (List ℕ)) : Type 0 where
  pub read : ReadsTo bytes head records []
  pub whole : length records ≡ head.count

-- the header, which is part 0, fails: the bytes don't begin with a good one
abbrev pub HeadFails : List ℕ → Type 0
HeadFails bytes = (head : FileHead) (left : List ℕ) → ReadsTo bytes head [] left → ⊥

-- the part behind some good records fails: no record more is there where one should be, or else something is left
pub record NextFails (bytes : List ℕ) (part : ℕ) : Type 0 where
  pub head : FileHead
  pub records : List (List ℕ)
  pub left : List ℕ
  pub read : ReadsTo bytes head records left
  pub at : part ≡ length records + 1
  pub next : (more left : List ℕ) → ReadsTo bytes head (records ++ more ∷ []) left → ⊥
  pub end : length records ≡ head.count → left ≡ [] → ⊥

-- the first part that fails: 0 is the header, 1 to the number of records these, and the next one what follows the last
abbrev pub FailsAt : List ℕ → ℕ → Type 0
FailsAt bytes part = (HeadFails bytes × (part ≡ 0)) ⊎ NextFails bytes part

-- the header of the file of an object's logs
abbrev pub head_of : List ℕ → ℕ → Version → List LogEntry → List LogEntry → FileHead
head_of name quota v base_logs logs = record {
  name = name;
  quota = quota;
  version = v;
  count = length (base_logs ++ logs);
  depth = oldest_depth logs;
}

-- the file of an object's logs: of those below the oldest kept one, and of the kept ones
unfoldable pub file_of : List ℕ → ℕ → Version → List LogEntry → List LogEntry → List ℕ
file_of name quota v base_logs logs = head_bytes (head_of name quota v base_logs logs) ++ flat_map framed (map (record_of v) (base_logs ++ logs))

-- the file of a run
abbrev pub run_file : List ℕ → ℕ → Version → List Command → List ℕ
run_file name quota v commands = file_of name quota v (run_base_logs v quota commands) (run_end v quota commands).logs
