-- How a queue keeps records: each in its slot, but for the one that is out.
use Rattle.std.specs.Prelude.{◌≡◌, ℕ, ◌<◌, ◌≤◌, List, [], map, length, slice_index_or, unwrap_or, option_map, Option, None, Some, IsSome}
use Rattle.dym_base.specs.Origins.{own}
use Rattle.dym_base.specs.declared.limits.TheConstants.{RECORD_ROOM}
use Rattle.dym_slots.specs.Meanings.{Numbered, KeepMeaning, NumbersRise}
use Rattle.dym_chain.specs.declared.vec_keep.Slot.{Slot}
use Rattle.dym_chain.specs.declared.vec_keep.Lifted.{Lifted}
use Rattle.dym_chain.specs.declared.vec_keep.VecKeep.TheInside.{Inside}

-- the bytes of the record that is out
abbrev pub bytes_out : Option Lifted → List ℕ
bytes_out None = []
bytes_out (Some lifted) = lifted.bytes.value

-- a slot's record under its number, these being the bytes of the one that is out
abbrev pub shown : List ℕ → Slot → Numbered
shown out slot = record { number = slot.number; bytes = unwrap_or slot.held out }

abbrev pub place_out : Option Lifted → Option ℕ
place_out lifted = option_map (λ (l : Lifted). l.place) lifted

abbrev pub keep_of : Inside → KeepMeaning
keep_of keep = record {
  records = map (shown (bytes_out keep.lifted)) keep.slots.items;
  made = keep.made;
  lifted = place_out keep.lifted;
  origin = own;
}

-- what stands in no slot
abbrev pub no_slot : Slot
no_slot = record { number = 0; held = None }

-- what is true of every such keep: there is room for a full list, numbers rise, and each slot has its record, but for the one
-- whose record is out
pub record IsValidKeep (slots : List Slot) (lifted : Option Lifted) (made capacity : ℕ) : Type 0 where
  pub room : RECORD_ROOM ≤ capacity
  pub few : length slots ≤ RECORD_ROOM
  pub rise : NumbersRise (map (shown (bytes_out lifted)) slots) made
  pub there : (i : ℕ) → i < length slots → (place_out lifted ≡ Some i → ⊥) → IsSome (slice_index_or slots i no_slot).held
  pub inside : (i : ℕ) → place_out lifted ≡ Some i → i < length slots
