-- Where the chunks of an object lie, and which of them count as written.
use Rattle.std.specs.Prelude.{◌≡◌, ℕ, ◌⊎◌, if◌then◌else◌, List, Option, None, Some}
use denote.RawPtr.{Ptr, block_ptr}
use Rattle.dym_base.specs.HeapStep.{handle_of}
use Rattle.dym_base.specs.declared.handle.Handle.{Handle}
use Rattle.dym_heap.specs.Addresses.{HasByteAt, region_of}
use Rattle.dym_heap.specs.Touches.{all_touched, touched_in}
use Rattle.dym_undo_object.specs.Addresses.{address_of}
use Rattle.dym_undo_object.specs.Meaning.{UndoObjectMeaning}
use Rattle.dym_c.specs.Calls.{has_left}
use Rattle.dym_c.specs.Handles.{c_handle}
use Rattle.dym_c.specs.Inspections.{bytes_at}
use Rattle.dym_c.specs.declared.handle.DymHandle.{DymHandle}

-- where it lies is told of a live chunk alone
abbrev place_after : Option (List ℕ) → Option Ptr → Ptr → Ptr
place_after (Some bytes) (Some place) before = place
place_after _ _ before = before

-- what is told of where a chunk lies: what C handed in stays where none is live
abbrev pub address_after : Option UndoObjectMeaning → Option Handle → Ptr → Ptr
address_after (Some o) (Some h) before = place_after (bytes_at o h) (address_of o.heap h) before
address_after _ _ before = before

-- the same of a chunk that is touched by it, which is a command
abbrev pub touched_address : Option UndoObjectMeaning → Option Handle → Ptr → Ptr
touched_address (Some o) h before = if has_left o then address_after (Some o) h before else before
touched_address None h before = before

-- the object with each live chunk touched, and else unchanged
abbrev pub with_all_touched : UndoObjectMeaning → UndoObjectMeaning
with_all_touched o = record o { heap = record o.heap { state = all_touched o.heap.state } }

-- the same of each live chunk that has a byte in the object's region from `from` up to `end`
abbrev pub with_touched_in : ℕ → ℕ → UndoObjectMeaning → UndoObjectMeaning
with_touched_in from end o = record o { heap = record o.heap { state = touched_in o.heap.quota from end o.heap.state } }

abbrev region_start : Option ℕ → Ptr → Ptr
region_start None before = before
region_start (Some region) before = block_ptr region 0

-- where the object's region begins
abbrev pub start_after : Option UndoObjectMeaning → Ptr → Ptr
start_after None before = before
start_after (Some o) before = region_start (region_of o.heap.origin) before

-- the live chunk that has the byte so far into the object's region: 3 where there is none
abbrev pub IsHandleAt : Option UndoObjectMeaning → ℕ → ℕ → DymHandle → DymHandle → Type 0
IsHandleAt None offset status before new = (status ≡ 11) × (new ≡ before)
IsHandleAt (Some o) offset status before new =
    ((h : Handle) × HasByteAt o.heap h offset × (status ≡ 0) × (new ≡ c_handle h))
    ⊎ (((k : ℕ) → HasByteAt o.heap (handle_of k) offset → ⊥) × (status ≡ 3) × (new ≡ before))
