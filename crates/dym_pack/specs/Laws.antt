-- What a record tells of its log.
use Rattle.std.specs.Prelude.{◌≡◌, ℕ, ◌<◌, List}
use Rattle.std.specs.FinMap.{contains_key}
use Rattle.dym_base.specs.Heaps.{Live, held}
use Rattle.dym_base.specs.Packed.{Logged, packed}
use Rattle.dym_base.specs.StandsFor.{packed_by, StandsFor}
use Rattle.dym_pack.specs.Areas.{area_list, chunks_of, chunk_number}
use Rattle.dym_base.specs.Recorded.{IsRecorded}

-- two logs are of one version, kind and time, have the same areas, and in each area the same handles and the same packed chunks
pub record SaysTheSame (a b : Logged) : Type 0 where
  pub version : a.version ≡ b.version
  pub kind : a.kind ≡ b.kind
  pub time : a.time ≡ b.time
  pub areas : area_list a.copy ≡ area_list b.copy
  pub handles : (k i : ℕ) → k < held a.copy → i < chunks_of a.copy k → contains_key a.copy (chunk_number a.copy k i) ≡ contains_key b.copy (chunk_number a.copy k i)
  pub chunks : (k i : ℕ) → k < held a.copy → i < chunks_of a.copy k → packed_by a (chunk_number a.copy k i) ≡ packed_by b (chunk_number a.copy k i)

-- two logs that a record can hold and that have the same bytes say the same
abbrev pub RecordTellsLog : Type 0
RecordTellsLog = (a b : Logged) → IsRecorded a → IsRecorded b → packed a ≡ packed b → SaysTheSame a b

-- no records stand for two maps
abbrev pub RecordsStandForOne : Type 0
RecordsStandForOne = (records : List (List ℕ)) (a b : Live) → StandsFor records a → StandsFor records b → a ≡ b
