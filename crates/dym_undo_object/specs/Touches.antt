-- A touch of a chunk as a command, and its answer as a reply.
use Rattle.std.specs.Prelude.{ℕ, List, [], ◌∷◌, Option, None, Some, Result, Ok, Err}
use Rattle.std.specs.FinMap.{get}
use denote.RawPtr.{Ptr}
use Rattle.dym_base.specs.HeapStep.{key}
use Rattle.dym_base.specs.declared.command.Command.{Command}
use Rattle.dym_base.specs.declared.command.Command.TheVariants.{Write}
use Rattle.dym_base.specs.declared.handle.Handle.{Handle}
use Rattle.dym_base.specs.declared.reply.Refusal.{Refusal}
use Rattle.dym_base.specs.declared.reply.Refusal.TheVariants.{Dead, Range}
use Rattle.dym_base.specs.declared.reply.Reply.{Reply}
use Rattle.dym_base.specs.declared.reply.Reply.TheVariants.{Done, Refused}
use Rattle.dym_undo_object.specs.Meaning.{UndoObjectMeaning}

-- all bytes that stand in a chunk: where it isn't live, none
abbrev pub all_of : Option (List ℕ) → List ℕ
all_of None = []
all_of (Some bytes) = bytes

-- the command that writes all bytes of a chunk as they stand there
abbrev pub write_of_all : UndoObjectMeaning → Handle → Command
write_of_all o h = Write h 0 (all_of (get o.heap.state.live (key h)))

-- whether a chunk has a byte: it is refused where it isn't live, and where it has none
abbrev pub check_answer : Option (List ℕ) → Result (Unit {0}) Refusal
check_answer None = Err Dead
check_answer (Some []) = Err Range
check_answer (Some (byte ∷ bytes)) = Ok tt

-- the answer of a touch as a reply
abbrev pub place_reply : Result Ptr Refusal → Reply
place_reply (Ok place) = Done
place_reply (Err why) = Refused why
