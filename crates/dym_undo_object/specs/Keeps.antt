-- What a call changes of a heap, by the chunk that it names.
use Rattle.std.specs.Prelude.{⊤, ◌≡◌, true, Option, None, Some}
use Rattle.std.specs.FinMap.{get, contains_key}
use Rattle.dym_base.specs.Heaps.{HeapState}
use Rattle.dym_base.specs.HeapStep.{key}
use Rattle.dym_base.specs.declared.handle.Handle.{Handle}
use Rattle.dym_undo.specs.UndoLogs.{DiffersAt}

-- a heap became another by a change of the chunk that is named alone; where none is named it is the same
abbrev pub Differs : Option Handle → HeapState → HeapState → Type 0
Differs None s t = t ≡ s
Differs (Some h) s t = DiffersAt (key h) s t

-- the chunk, if one is named, is live; is dead
abbrev pub IsLiveIn : HeapState → Option Handle → Type 0
IsLiveIn s None = ⊤
IsLiveIn s (Some h) = contains_key s.live (key h) ≡ true

abbrev pub IsDeadIn : HeapState → Option Handle → Type 0
IsDeadIn s None = ⊤
IsDeadIn s (Some h) = get s.live (key h) ≡ None
