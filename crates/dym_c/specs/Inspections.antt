-- What is told of an object without a command.
use Rattle.std.specs.Prelude.{◌≡◌, ℕ, ◌≤◌, nat_lt, false, ◌⊎◌, List, length, Option, None, Some}
use Rattle.std.specs.Bool.{MatchBool}
use Rattle.std.specs.FinMap.{get, contains_key}
use Rattle.dym_base.specs.HeapStep.{key}
use Rattle.dym_base.specs.Files.{version_number}
use Rattle.dym_base.specs.Heaps.{Live, held}
use Rattle.dym_base.specs.Objects.{kind_of}
use Rattle.dym_base.specs.declared.handle.Handle.{Handle}
use Rattle.dym_heap.specs.Replies.{after_key, IsNextLive}
use Rattle.dym_undo.specs.UndoLogs.{log_at}
use Rattle.dym_undo_object.specs.Meaning.{UndoObjectMeaning}
use Rattle.dym_c.specs.Handles.{nil, c_handle}
use Rattle.dym_c.specs.OutValues.{kind_number}
use Rattle.dym_c.specs.declared.handle.DymHandle.{DymHandle}
use Rattle.dym_c.specs.declared.out_values.DymHeap.{DymHeap}

-- the status of a call that any open object grants
abbrev pub open_status : Option UndoObjectMeaning → ℕ
open_status None = 11
open_status (Some o) = 0

-- an object's version, its quota, and the segments that it holds
abbrev pub heap_after : Option UndoObjectMeaning → DymHeap → DymHeap
heap_after None before = before
heap_after (Some o) before = record { version = version_number o.heap.version; quota = o.heap.quota; held = held o.heap.state.live }

-- the time of the kept log at a place, the oldest at place 0: 7 where as many aren't kept
abbrev pub IsLogTime : Option UndoObjectMeaning → ℕ → ℕ → ℕ → ℕ → Type 0
IsLogTime None place status before new = (status ≡ 11) × (new ≡ before)
IsLogTime (Some o) place status before new =
    MatchBool (nat_lt place (length o.logs)) ((status ≡ 0) × (new ≡ (log_at o.logs place).time)) ((status ≡ 7) × (new ≡ before))

-- its kind: 0 where the log is full, 1 where it is incremental
abbrev pub IsLogKind : Option UndoObjectMeaning → ℕ → ℕ → ℕ → ℕ → Type 0
IsLogKind None place status before new = (status ≡ 11) × (new ≡ before)
IsLogKind (Some o) place status before new =
    MatchBool (nat_lt place (length o.logs)) ((status ≡ 0) × (new ≡ kind_number (kind_of (log_at o.logs place)))) ((status ≡ 7) × (new ≡ before))

-- what is told of any open object, whatever it is: no definition says so
abbrev pub IsTold : {T : Type 0} → Option UndoObjectMeaning → ℕ → T → T → Type 0
IsTold None status before new = (status ≡ 11) × (new ≡ before)
IsTold (Some o) status before new = status ≡ 0

-- the bytes of a live chunk
abbrev pub bytes_at : UndoObjectMeaning → Handle → Option (List ℕ)
bytes_at o h = get o.heap.state.live (key h)

abbrev pub status_by : Option (List ℕ) → ℕ
status_by None = 3
status_by (Some bytes) = 0

abbrev pub value_after : Option (List ℕ) → ℕ → ℕ
value_after None before = before
value_after (Some bytes) before = length bytes

-- a chunk's length: 3 where it isn't live
abbrev pub size_status : Option UndoObjectMeaning → Option Handle → ℕ
size_status (Some o) (Some h) = status_by (bytes_at o h)
size_status None (Some h) = 11
size_status _ None = 9

abbrev pub size_after : Option UndoObjectMeaning → Option Handle → ℕ → ℕ
size_after (Some o) (Some h) before = value_after (bytes_at o h) before
size_after _ _ before = before

-- the least live chunk above another, or nil where there is none
abbrev pub IsLeast : Live → ℕ → DymHandle → Type 0
IsLeast live from next = ((next ≡ nil) × ((k : ℕ) → from ≤ k → contains_key live k ≡ false)) ⊎ ((h : Handle) × (next ≡ c_handle h) × IsNextLive live from (key h))

abbrev pub IsNext : Option UndoObjectMeaning → Option (Option Handle) → ℕ → DymHandle → DymHandle → Type 0
IsNext (Some o) (Some place) status before next = (status ≡ 0) × IsLeast o.heap.state.live (after_key place) next
IsNext None (Some place) status before next = (status ≡ 11) × (next ≡ before)
IsNext _ None status before next = (status ≡ 9) × (next ≡ before)

-- what is told of a chunk that was changed without a call: nil or a handle, of an object that is checked and whose heap was copied. Which
-- one, no definition says: bytes that no call is told of are none of the object's.
abbrev pub IsUntold : Option UndoObjectMeaning → ℕ → DymHandle → DymHandle → Type 0
IsUntold None status before first = (status ≡ 11) × (first ≡ before)
IsUntold (Some o) status before first =
    (((status ≡ 8) ⊎ (status ≡ 9)) × (first ≡ before)) ⊎ ((status ≡ 0) × ((first ≡ nil) ⊎ ((h : Handle) × (first ≡ c_handle h))))
