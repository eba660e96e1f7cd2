-- What the definitions come to, in the subject's own words. Each is the contract of a function of src/laws.rt.
use Rattle.std.specs.Prelude.{◌≡◌, ℕ, ◌+◌, ◌/◌, ◌^◌, ◌<◌, ◌≤◌, ◌↔◌, true, false, ⊤, List, length, Option, None, Some}
use Rattle.std.specs.FinMap as map
use Rattle.std.specs.FinSet as set
use Rattle.dym_base.specs.Numbers.{size, per, number, exponent_of, index_of, cls}
use Rattle.dym_base.specs.Heaps.{Live, HeapState, fresh, areas, held}
use Rattle.dym_base.specs.HeapStep.{held_with_fresh, heap_step}
use Rattle.dym_base.specs.Objects.{ObjectState, object_step, empty_heap}
use Rattle.dym_base.specs.declared.limits.TheConstants.{LEAST_EXPONENT, GREATEST_EXPONENT}
use Rattle.dym_base.specs.declared.handle.Handle.{Handle}
use Rattle.dym_base.specs.declared.command.Version.{Version}
use Rattle.dym_base.specs.declared.command.Version.TheVariants.{One, Two}
use Rattle.dym_base.specs.declared.command.Command.{Command}
use Rattle.dym_base.specs.declared.command.Command.TheVariants.{Realloc}
use Rattle.dym_base.specs.declared.reply.Refusal.{Refusal}
use Rattle.dym_base.specs.declared.reply.Reply.TheVariants.{Refused}

-- the chunk of number k is live
abbrev pub IsLive : Live → ℕ → Type 0
IsLive live k = map.contains_key live k ≡ true

-- fresh is the index of no live chunk
abbrev pub FreshIsFree : Type 0
FreshIsFree = (live : Live) (e : ℕ) → map.contains_key live (number e (fresh live e)) ≡ false

-- each index below it is that of a live chunk
abbrev pub FreshIsLeast : Type 0
FreshIsLeast = (live : Live) (e i : ℕ) → i < fresh live e → IsLive live (number e i)

-- a number gives back the handle that it was made of
abbrev pub NumberKeepsHandle : Type 0
NumberKeepsHandle = (e i : ℕ) → i < 2 ^ 32 → (exponent_of (number e i) ≡ e) × (index_of (number e i) ≡ i)

-- and the handle of a number has that number
abbrev pub HandleKeepsNumber : Type 0
HandleKeepsNumber = (n : ℕ) → (number (exponent_of n) (index_of n) ≡ n) × (index_of n < 2 ^ 32)

-- the areas of a class are the least number that each live index of the class, divided by the chunks of an area, is below
abbrev pub AreasAreLeast : Type 0
AreasAreLeast = (live : Live) (e n : ℕ) → (areas live e ≤ n) ↔ ((k : ℕ) → IsLive live k → exponent_of k ≡ e → index_of k / per e < n)

-- a new chunk needs no segment more where an area that is there has its index; else it is the first of the next area, and
-- needs one more
abbrev pub FreshNeedsArea : Type 0
FreshNeedsArea = (live : Live) (e : ℕ) → LEAST_EXPONENT ≤ e → e ≤ GREATEST_EXPONENT → fresh live e < 2 ^ 32 →
    (fresh live e / per e < areas live e → held_with_fresh live e ≡ held live)
    × (areas live e ≤ fresh live e / per e → (fresh live e / per e ≡ areas live e) × (held_with_fresh live e ≡ held live + 1))

-- no step takes a heap above its quota
abbrev pub QuotaIsKept : Type 0
QuotaIsKept = (v : Version) (quota : ℕ) (s : HeapState) (c : Command) → held s.live ≤ quota → held (heap_step v quota s c).heap.live ≤ quota

-- a length that a chunk of class e has: in version 1 the size of the class, in version 2 any whose class is e
abbrev pub IsLengthOf : Version → ℕ → ℕ → Type 0
IsLengthOf One e n = n ≡ size e
IsLengthOf Two e n = cls n ≡ Some e

-- the number k is that of a chunk with these bytes
abbrev pub FitsClass : Version → ℕ → List ℕ → Type 0
FitsClass v k bytes = (LEAST_EXPONENT ≤ exponent_of k) × (exponent_of k ≤ GREATEST_EXPONENT)
    × IsLengthOf v (exponent_of k) (length bytes)

-- each live chunk is of a class, and its length is one of that class
abbrev pub IsWellSized : Version → Live → Type 0
IsWellSized v live = (k : ℕ) (bytes : List ℕ) → map.get live k ≡ Some bytes → FitsClass v k bytes

-- the handle that a command resizes has an index of 32 bits, as a handle's field has
abbrev pub HasIndex : Option Handle → Type 0
HasIndex None = ⊤
HasIndex (Some h) = h.index < 2 ^ 32

abbrev pub ResizesHandle : Command → Type 0
ResizesHandle (Realloc h n) = HasIndex h
ResizesHandle c = ⊤

-- an empty heap is well sized, and each step keeps that. The quota keeps indices below 2 ^ 32
abbrev pub StartIsWellSized : Type 0
StartIsWellSized = (v : Version) → IsWellSized v empty_heap.live

abbrev pub StepIsWellSized : Type 0
StepIsWellSized = (v : Version) (quota : ℕ) (s : HeapState) (c : Command) → quota < 2 ^ 21 → ResizesHandle c → IsWellSized v s.live → IsWellSized v (heap_step v quota s c).heap.live

-- a command that was refused changed nothing
abbrev pub HeapRefusalKeeps : Type 0
HeapRefusalKeeps = (v : Version) (quota : ℕ) (s : HeapState) (c : Command) (why : Refusal) → (heap_step v quota s c).reply ≡ Refused why → (heap_step v quota s c).heap ≡ s

abbrev pub ObjectRefusalKeeps : Type 0
ObjectRefusalKeeps = (v : Version) (quota : ℕ) (s : ObjectState) (c : Command) (why : Refusal) → (object_step v quota s c).reply ≡ Refused why → (object_step v quota s c).object ≡ s

-- each touched chunk is live
abbrev pub TouchesLive : HeapState → Type 0
TouchesLive s = (k : ℕ) → set.contains s.touched k ≡ true → IsLive s.live k

abbrev pub StartTouchesLive : Type 0
StartTouchesLive = TouchesLive empty_heap

abbrev pub StepTouchesLive : Type 0
StepTouchesLive = (v : Version) (quota : ℕ) (s : HeapState) (c : Command) → TouchesLive s → TouchesLive (heap_step v quota s c).heap
