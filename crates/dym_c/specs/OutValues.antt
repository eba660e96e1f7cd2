-- What exports tell beside their status. Where there is no such reply, what C handed in stays.
use Rattle.std.specs.Prelude.{ℕ, ◌==◌, if◌then◌else◌, List, Option, None, Some}
use Rattle.dym_base.specs.Numbers.{number}
use Rattle.dym_base.specs.declared.command.Kind.{Kind}
use Rattle.dym_base.specs.declared.command.Kind.TheVariants.{Full, Inc}
use Rattle.dym_base.specs.declared.reply.Reply.{Reply}
use Rattle.dym_base.specs.declared.reply.Reply.TheVariants.{Chunk, Nil, Loose, Bytes, Total, Logged, At, Dropped, Slots}
use Rattle.dym_heap.specs.declared.found.Found.{Found}
use Rattle.dym_heap.specs.declared.found.Found.TheVariants as found
use Rattle.dym_undo_object.specs.Meaning.{UndoObjectMeaning}
use Rattle.dym_c.specs.Calls.{has_left}
use Rattle.dym_c.specs.Handles.{nil, c_handle}
use Rattle.dym_c.specs.declared.handle.DymHandle.{DymHandle}
use Rattle.dym_c.specs.declared.out_values.DymFound.{DymFound}
use Rattle.dym_c.specs.declared.out_values.DymSlots.{DymSlots}

abbrev pub kind_number : Kind → ℕ
kind_number Full = 0
kind_number Inc = 1

abbrev pub kind_of : ℕ → Option Kind
kind_of n = if n == 0 then Some Full else (if n == 1 then Some Inc else None)

-- what was found: nothing, a live chunk with its number, or the number of none
abbrev pub found_out : Found → DymFound
found_out found.Nil = record { kind = 0; chunk = nil; number = 0 }
found_out (found.Live h) = record { kind = 1; chunk = c_handle h; number = number h.exp h.index }
found_out (found.Loose n) = record { kind = 2; chunk = nil; number = n }

abbrev pub chunk_after : Option Reply → DymHandle → DymHandle
chunk_after (Some (Chunk h)) before = c_handle h
chunk_after (Some Nil) before = nil
chunk_after _ before = before

abbrev pub found_after : Option Reply → DymFound → DymFound
found_after (Some Nil) before = found_out found.Nil
found_after (Some (Chunk h)) before = found_out (found.Live h)
found_after (Some (Loose n)) before = found_out (found.Loose n)
found_after _ before = before

abbrev pub bytes_after : Option Reply → List ℕ → List ℕ
bytes_after (Some (Bytes bytes)) before = bytes
bytes_after _ before = before

abbrev pub total_after : Option Reply → ℕ → ℕ
total_after (Some (Total n)) before = n
total_after _ before = before

-- the kind of the log that was taken
abbrev pub kind_after : Option Reply → ℕ → ℕ
kind_after (Some (Logged kind len)) before = kind_number kind
kind_after _ before = before

abbrev pub time_after : Option Reply → ℕ → ℕ
time_after (Some (At time)) before = time
time_after _ before = before

abbrev pub dropped_after : Option Reply → ℕ → ℕ
dropped_after (Some (Dropped n)) before = n
dropped_after _ before = before

-- what a prune tells that drops nothing, where a command could be run
abbrev pub none_dropped : Option UndoObjectMeaning → ℕ → ℕ
none_dropped (Some o) before = if has_left o then 0 else before
none_dropped None before = before

abbrev pub slots_after : Option Reply → DymSlots → DymSlots
slots_after (Some (Slots kept slots)) before = record { kept = kept; slots = slots }
slots_after _ before = before
