-- What the two ends of a log table are seen as.
use Rattle.std.specs.Prelude.{◌≡◌, ⊤, ℕ, ◌+◌, ◌<◌, ◌≤◌, List, [], ◌∷◌, ◌++◌, take, drop, slice_index_or, Option}
use Rattle.dym_base.specs.Origins.{TableName, Origin}
use Rattle.dym_base.specs.declared.limits.TheConstants.{LOG_SLOTS}
use Rattle.atomic_table.specs.Seated.{TableId}

-- the name of a table, as plain data
abbrev pub name_of : TableId → TableName
name_of t = record {
  words = t.words;
  slots = t.slots;
  views_name = t.views_name;
  atom = t.atom;
  block = t.block;
  offset = t.offset;
  slot_names = t.slot_names;
}

-- a record under its number
pub record Numbered : Type 0 where
  pub number : ℕ
  pub bytes : List ℕ

-- a keep of records, as the owner is one: the records, oldest first, numbers rising; the number that the next record gets; the
-- place whose record is out; where the keep has its room, which for an owner is its log table
pub record KeepMeaning : Type 0 where
  pub records : List Numbered
  pub made : ℕ
  pub lifted : Option ℕ
  pub origin : Origin

-- the sweeper: its log table; how many rounds it began; how many records it took back; how many slots, from the first on, it
-- found without a record below the root that it read last; this root; and a number that the root has reached, as notes told
pub record SweeperMeaning : Type 0 where
  pub table : TableName
  pub rounds : ℕ
  pub taken_back : ℕ
  pub clean : ℕ
  pub root_seen : ℕ
  pub least_root : ℕ

-- a note: the root of this log table has reached this number, so that the owner let go of all records below it
pub record RootNoteMeaning : Type 0 where
  pub table : TableName
  pub root : ℕ

-- no slot has a record at rest below this root: the sweeper found all slots so, for a root that is no lower
pub record IsSweptTo (root : ℕ) (sweeper : SweeperMeaning) : Type 0 where
  pub seen : root ≤ sweeper.root_seen
  pub clean : sweeper.clean ≡ LOG_SLOTS

-- what stands at a place past the end
abbrev pub no_record : Numbered
no_record = record { number = 0; bytes = [] }

-- the record at a place
abbrev pub record_at : List Numbered → ℕ → Numbered
record_at records place = slice_index_or records place no_record

-- the keep with one record more, under the number that was next
abbrev pub with_record : KeepMeaning → List ℕ → KeepMeaning
with_record keep bytes = record keep {
  records = keep.records ++ record { number = keep.made; bytes = bytes } ∷ [];
  made = keep.made + 1;
}

-- the keep without the records after a place, and without those before it
abbrev pub up_to : KeepMeaning → ℕ → KeepMeaning
up_to keep place = record keep { records = take (place + 1) keep.records }

abbrev pub from : KeepMeaning → ℕ → KeepMeaning
from keep place = record keep { records = drop place keep.records }

-- the number of the first record, or else the next one
abbrev pub first_number : List Numbered → ℕ → ℕ
first_number [] made = made
first_number (r ∷ records) made = r.number

-- the numbers rise, and are below the next one
abbrev pub NumbersRise : List Numbered → ℕ → Type 0
NumbersRise [] made = ⊤
NumbersRise (r ∷ records) made = (r.number < first_number records made) × NumbersRise records made
