-- How a sweeper's fields and a note's stand for what they are seen as.
use Rattle.std.specs.Prelude.{◌≡◌, []}
use Rattle.dym_slots.specs.declared.sweeper.Sweeper.TheInside.{Inside}
use Rattle.dym_slots.specs.declared.root_note.RootNote.TheInside as Note
use Rattle.dym_slots.specs.declared.view.SeatView.TheVariants.{Knows}
use Rattle.dym_slots.specs.SeatViews.{sweeper_of, known_root}
use Rattle.dym_slots.specs.Moves.{SitsAt, IsIdleSweeper}
use Rattle.dym_slots.specs.Meanings.{SweeperMeaning, RootNoteMeaning, name_of}

abbrev pub sweeper_meaning : Inside → SweeperMeaning
sweeper_meaning i =
    let w = sweeper_of i.seat.me.0 in
    record {
      table = name_of i.seat.table_id;
      rounds = w.rounds;
      taken_back = w.taken_back;
      clean = w.clean;
      root_seen = w.root_seen;
      least_root = w.least_root;
    }

-- what is true of every sweeper: it sits at its table and has no slot out
pub record IsSweeper (i : Inside) : Type 0 where
  pub seated : SitsAt i.table.value.shared.table_id i.seat.table_id
  pub idle : IsIdleSweeper i.seat.me

abbrev pub note_meaning : Note.Inside → RootNoteMeaning
note_meaning i = record { table = name_of i.seat.table_id; root = known_root i.seat.me.0 }

-- what is true of every note: it knows a root, and has no slot
abbrev pub IsNote : Note.Inside → Type 0
IsNote i = i.seat.me ≡ (Knows (known_root i.seat.me.0), [])
