-- Records that are read one after the other.
use Rattle.std.specs.Prelude.{◌≡◌, ℕ, ◌-◌, ◌<◌, ◌≤◌, List, [], ◌∷◌, ◌++◌, length, map, None}
use Rattle.std.specs.List.{AllByRecursion}
use Rattle.dym_base.specs.LawfulLists.{IsRecordOf, IsLawfulList, MayFollow, depth_after}
use Rattle.dym_base.specs.Origins.{own}
use Rattle.dym_base.specs.Packed.{Logged, packed}
use Rattle.dym_base.specs.Recorded.{IsRecorded}
use Rattle.dym_base.specs.declared.limits.TheConstants.{MOST_DEPTH}
use Rattle.dym_base.specs.declared.command.Version.{Version}
use Rattle.dym_base.specs.declared.command.Kind.{Kind}
use Rattle.dym_base.specs.declared.command.Kind.TheVariants.{Full, Inc}
use Rattle.dym_pack.specs.ParsedAreas.{OfLog}
use Rattle.dym_slots.specs.Meanings.{Numbered, record_at}
use Rattle.dym_chain.specs.Keeps.{bytes_of}
use Rattle.dym_ckpt.specs.declared.records.RecordList.{RecordList}

-- what is true of whatever logs have these bytes
abbrev pub OfLogs : List (List ℕ) → (List Logged → Type 0) → Type 0
OfLogs records P = (logs : List Logged) → AllByRecursion IsRecorded logs → map packed logs ≡ records → P logs

-- how many logs stand between the last of these and the last full one, where they stand behind one of depth n
abbrev pub last_depth : ℕ → List Logged → ℕ
last_depth n [] = n
last_depth n (log ∷ logs) = last_depth (depth_after n log.kind) logs

-- a record of this kind may stand at a place, behind a record of this depth, where the oldest kept log has depth d
pub record FitsPlace (d place depth : ℕ) (kind : Kind) : Type 0 where
  pub first : place ≡ 0 → kind ≡ Full
  pub base : 0 < place → place ≤ d → kind ≡ Inc
  pub shallow : depth_after depth kind ≤ MOST_DEPTH

-- the bytes of the last record
abbrev pub last_bytes : List Numbered → List ℕ
last_bytes records = (record_at records (length records - 1)).bytes

-- what is said of a record behind others, whichever logs have these bytes: its kind may stand there; it may stand behind the last of
-- them, or may not; its kind may not stand there, or there is a last one behind which it may not stand
abbrev pub FitsBehind : ℕ → ℕ → List Numbered → List ℕ → Type 0
FitsBehind d depth records rec = OfLog rec (λ log. FitsPlace d (length records) depth log.kind)

abbrev pub FollowsLast : List Numbered → List ℕ → Type 0
FollowsLast records rec = OfLog (last_bytes records) (λ b. OfLog rec (λ log. MayFollow b log))

abbrev pub NeverFollowsLast : List Numbered → List ℕ → Type 0
NeverFollowsLast records rec = OfLog (last_bytes records) (λ b. OfLog rec (λ log. MayFollow b log → ⊥))

abbrev pub NeverFits : ℕ → ℕ → List Numbered → List ℕ → Type 0
NeverFits d depth records rec =
    OfLog rec (λ log. FitsPlace d (length records) depth log.kind → (0 < length records) × OfLog (last_bytes records) (λ b. MayFollow b log → ⊥))

-- bytes are no record that makes a lawful list behind these
abbrev pub CantBeNext : Version → ℕ → ℕ → List (List ℕ) → List ℕ → Type 0
CantBeNext v quota d records more = IsRecordOf v quota more → IsLawfulList v d (records ++ more ∷ []) → ⊥

-- the records that were read so far: a lawful list in a keep of their own, with the depth of the last
pub record IsListed (v : Version) (d : ℕ) (record_list : RecordList) : Type 0 where
  pub idle : record_list.keep.lifted ≡ None
  pub made : record_list.keep.made ≡ length record_list.keep.records
  pub own_room : record_list.keep.origin ≡ own
  pub lawful : IsLawfulList v d (bytes_of record_list.keep.records)
  pub depth : OfLogs (bytes_of record_list.keep.records) (λ logs. record_list.depth ≡ last_depth 0 logs)
