-- How an owner's fields stand for what it is seen as.
use Rattle.std.specs.Prelude.{◌≡◌, ℕ, ◌<◌, ◌≤◌, List, [], ◌∷◌, map, length, vec_capacity, Option, None, Some}
use Rattle.dym_base.specs.Origins.{shared}
use Rattle.dym_base.specs.declared.limits.TheConstants.{RECORD_ROOM}
use Rattle.dym_slots.specs.declared.owner.Owner.TheInside.{Inside}
use Rattle.dym_slots.specs.SeatViews.{owner_of}
use Rattle.dym_slots.specs.TableStates.{Knowing}
use Rattle.dym_slots.specs.Moves.{SitsAt}
use Rattle.dym_slots.specs.Meanings.{KeepMeaning, name_of}
use Rattle.dym_slots.specs.Orders.{slot_at, numbered, Stands}

-- the slot whose record is out, if any, has nothing at home
abbrev pub OutIs : List ℕ → Option ℕ → Knowing → Type 0
OutIs order None me = ((owner_of me.0).out ≡ None) × (me.1 ≡ [])
OutIs order (Some place) me = ((owner_of me.0).out ≡ Some (slot_at order place)) × (me.1 ≡ (slot_at order place, None) ∷ [])

abbrev pub owner_meaning : Inside → KeepMeaning
owner_meaning i = record {
  records = map numbered (owner_of i.seat.me.0).list;
  made = i.made;
  lifted = i.lifted;
  origin = shared (name_of i.seat.table_id);
}

-- what is true of every owner: it sits at its table, its fields say what its seat knows, the numbers of a full list have room,
-- and the record that is out is one of its list
pub record IsOwned (i : Inside) : Type 0 where
  pub seated : SitsAt i.table.value.shared.table_id i.seat.table_id
  pub stands : Stands i.order.items i.numbers.items i.made i.seat.me
  pub room : RECORD_ROOM ≤ vec_capacity i.numbers
  pub inside : (place : ℕ) → i.lifted ≡ Some place → place < length i.numbers.items
  pub out : OutIs i.order.items i.lifted i.seat.me
