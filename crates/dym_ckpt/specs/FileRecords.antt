-- What reading a file's bytes answers.
use Rattle.std.specs.Prelude.{◌≡◌, ℕ, ◌+◌, ◌<◌, ◌≤◌, List, [], ◌∷◌, ◌++◌, length}
use Rattle.std.specs.List.{AllByRecursion, flat_map}
use Rattle.dym_base.specs.Files.{FileHead, framed, ReadsTo, FailsAt}
use Rattle.dym_base.specs.LawfulLists.{IsRecordOf, IsLawfulList}
use Rattle.dym_base.specs.declared.command.Version.{Version}
use Rattle.dym_chain.specs.Keeps.{bytes_of}
use Rattle.dym_ckpt.specs.Lists.{IsListed}
use Rattle.dym_ckpt.specs.declared.records.RecordList.{RecordList}
use Rattle.dym_ckpt.specs.declared.file_reader.FileFail.{FileFail}
use Rattle.dym_ckpt.specs.declared.file_reader.FileFail.TheVariants.{Bad, Memory}

-- the bytes begin with a good header and some good records of it
pub record BeginsWell (bytes : List ℕ) : Type 0 where
  pub head : FileHead
  pub records : List (List ℕ)
  pub left : List ℕ
  pub read : ReadsTo bytes head records left

-- the fault is one of the bytes, which fail at its part, or want of memory, which comes only behind a good header
abbrev pub FailsAs : List ℕ → FileFail → Type 0
FailsAs bytes (Bad part) = FailsAt bytes part
FailsAs bytes Memory = BeginsWell bytes

-- bytes that begin with so many records, which were read
pub record AreRead (v : Version) (quota d : ℕ) (bytes : List ℕ) (record_list : RecordList) (count : ℕ) (left : List ℕ) : Type 0 where
  pub is : IsListed v d record_list
  pub each : AllByRecursion (IsRecordOf v quota) (bytes_of record_list.keep.records)
  pub many : length record_list.keep.records ≡ count
  pub are : bytes ≡ flat_map framed (bytes_of record_list.keep.records) ++ left

-- bytes begin with a record, which was read behind others
pub record RecordIsRead (v : Version) (quota : ℕ) (old new : RecordList) (bytes rest : List ℕ) : Type 0 where
  pub it : List ℕ
  pub of : IsRecordOf v quota it
  pub added : bytes_of new.keep.records ≡ bytes_of old.keep.records ++ it ∷ []
  pub are : bytes ≡ framed it ++ rest

-- bytes begin with no record that may stand behind those that were read
abbrev pub NoRecordIn : Version → ℕ → ℕ → RecordList → List ℕ → Type 0
NoRecordIn v quota d record_list bytes =
    (more rest : List ℕ) → IsRecordOf v quota more → IsLawfulList v d (bytes_of record_list.keep.records ++ more ∷ []) → bytes ≡ framed more ++ rest → ⊥

-- the bytes behind a header begin with some good records, and with no record more, though one should be there
pub record StopsAt (v : Version) (quota d count : ℕ) (bytes : List ℕ) (part : ℕ) : Type 0 where
  pub records : List (List ℕ)
  pub left : List ℕ
  pub few : length records < count
  pub each : AllByRecursion (IsRecordOf v quota) records
  pub lawful : IsLawfulList v d records
  pub are : bytes ≡ flat_map framed records ++ left
  pub at : part ≡ length records + 1
  pub next : (more rest : List ℕ) → IsRecordOf v quota more → IsLawfulList v d (records ++ more ∷ []) → left ≡ framed more ++ rest → ⊥

-- the bytes behind a header begin with some good records
pub record SomeAreRead (v : Version) (quota d count : ℕ) (bytes : List ℕ) : Type 0 where
  pub records : List (List ℕ)
  pub left : List ℕ
  pub few : length records ≤ count
  pub each : AllByRecursion (IsRecordOf v quota) records
  pub lawful : IsLawfulList v d records
  pub are : bytes ≡ flat_map framed records ++ left

abbrev pub StopsAs : Version → ℕ → ℕ → ℕ → List ℕ → FileFail → Type 0
StopsAs v quota d count bytes (Bad part) = StopsAt v quota d count bytes part
StopsAs v quota d count bytes Memory = SomeAreRead v quota d count bytes
