-- How the log table's words show the states of its slots.
use Rattle.std.specs.Prelude.{ℕ, ◌+◌, ◌*◌, ◌<◌}
use Rattle.dym_slots.specs.declared.machine.Slot.{Slot}
use Rattle.dym_slots.specs.declared.machine.Slot.TheVariants.{Free, Live, OutOwner, OutSweeper}
use Rattle.dym_slots.specs.declared.machine.TheConstants.{RECORD_NUMBERS}

-- the word of a slot: 0 where it is Free, else four times the number with the state in the last two bits
abbrev pub slot_word : Slot → ℕ
slot_word Free = 0
slot_word (Live n) = 4 * n + 1
slot_word (OutOwner n) = 4 * n + 2
slot_word (OutSweeper n) = 4 * n + 3

-- the slot's number is one that a record may have
abbrev pub IsNumbered : Slot → Type 0
IsNumbered Free = Unit {0}
IsNumbered (Live n) = n < RECORD_NUMBERS
IsNumbered (OutOwner n) = n < RECORD_NUMBERS
IsNumbered (OutSweeper n) = n < RECORD_NUMBERS
