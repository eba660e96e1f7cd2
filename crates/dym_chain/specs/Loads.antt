-- What records bring into a heap, one after the other.
use Rattle.std.specs.Prelude.{◌≡◌, ℕ, true, None, List}
use Rattle.std.specs.List.{AllByRecursion}
use Rattle.dym_base.specs.Heaps.{HeapState}
use Rattle.dym_base.specs.Packed.{Logged}
use Rattle.dym_base.specs.StandsFor.{newest_packed, packed_by}
use Rattle.dym_base.specs.declared.command.Version.{Version}
use Rattle.dym_heap.specs.Fetches.{heap_chunk, fetched, is_unmodified}
use Rattle.dym_pack.specs.ParsedAreas.{OfLog}

-- the records are of one version
abbrev pub HaveVersion : Version → List (List ℕ) → Type 0
HaveVersion v records = AllByRecursion (λ (bytes : List ℕ). OfLog bytes (λ log. log.version ≡ v)) records

-- the log packs no chunk that is live and not touched
abbrev pub PacksTouched : HeapState → Logged → Type 0
PacksTouched s log = (k : ℕ) → is_unmodified (heap_chunk s k) ≡ true → packed_by log k ≡ None

-- what is live and not touched is as it was
abbrev pub KeepsUnmodified : HeapState → HeapState → Type 0
KeepsUnmodified old new = (k : ℕ) → is_unmodified (heap_chunk new k) ≡ true → heap_chunk new k ≡ heap_chunk old k

-- each touched chunk has the bytes of the newest log that packs it, and is touched no more where there is one
abbrev pub AreFetched : List Logged → HeapState → HeapState → Type 0
AreFetched logs old new = (k : ℕ) → heap_chunk new k ≡ fetched (newest_packed logs k) (heap_chunk old k)
