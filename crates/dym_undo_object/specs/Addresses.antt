-- Where the chunks of an object lie, and that they stay there.
use Rattle.std.specs.Prelude.{◌≡◌}
use Rattle.dym_base.specs.declared.handle.Handle.{Handle}
use Rattle.dym_base.specs.declared.command.Command.{Command}
pub use Rattle.dym_heap.specs.Addresses.{address_of}
use Rattle.dym_heap.specs.Meaning.{HeapMeaning}
use Rattle.dym_undo_object.specs.Meaning.{UndoObjectMeaning, IsStep}

-- the heap's origin, its quota and the handle tell the address
abbrev pub OriginAndQuotaTell : Type 0
OriginAndQuotaTell = (old new : HeapMeaning) (h : Handle) → new.origin ≡ old.origin → new.quota ≡ old.quota → address_of new h ≡ address_of old h

-- and no command changes it
abbrev pub CommandsMoveNoChunk : Type 0
CommandsMoveNoChunk = (old new : UndoObjectMeaning) (command : Command) (h : Handle) → IsStep old new command → address_of new.heap h ≡ address_of old.heap h
