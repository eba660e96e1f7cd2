-- Where a chunk lies, in a heap whose supply binds each area to a segment of one region.
use Rattle.std.specs.Prelude.{◌≡◌, ℕ, ◌+◌, ◌*◌, ◌/◌, ◌%◌, ◌≤◌, ◌<◌, length, Option, None, Some, MatchOption, option_map}
use Rattle.std.specs.FinMap.{get}
use denote.RawPtr.{Ptr, block_ptr}
use Rattle.dym_base.specs.Numbers.{size, per, rank, IsClass}
use Rattle.dym_base.specs.HeapStep.{key}
use Rattle.dym_base.specs.Origins.{Origin, own, shared}
use Rattle.dym_base.specs.declared.handle.Handle.{Handle}
use Rattle.dym_base.specs.declared.limits.TheConstants.{SEGMENT_BYTES, LEAST_EXPONENT, GREATEST_EXPONENT}
use Rattle.dym_heap.specs.Meaning.{HeapMeaning}
use Rattle.dym_heap.specs.Shelves.{FitsIn}

-- how far into the region the chunk of a handle lies: area o of class c has segment c * quota + o
abbrev pub chunk_offset : ℕ → Handle → ℕ
chunk_offset quota h = (rank h.exp * quota + h.index / per h.exp) * SEGMENT_BYTES + (h.index % per h.exp) * size h.exp

-- the block of the region that segments come from, where they come from one
abbrev pub region_of : Origin → Option ℕ
region_of own = None
region_of (shared name) = Some name.block

-- where the chunk of a handle lies while it is live, where the heap's segments come from one region
abbrev pub address_of : HeapMeaning → Handle → Option Ptr
address_of heap h = option_map (λ region. block_ptr region (chunk_offset heap.quota h)) (region_of heap.origin)

-- a live chunk with at least one byte
abbrev pub HasByte : HeapMeaning → Handle → Type 0
HasByte h handle = FitsIn (get h.state.live (key handle)) 1

-- the byte at `offset` of the region is one of the live chunk's
abbrev pub HasByteAt : HeapMeaning → Handle → ℕ → Type 0
HasByteAt h handle offset = MatchOption (get h.state.live (key handle)) ⊥ (λ bytes.
    (chunk_offset h.quota handle ≤ offset) × (offset < chunk_offset h.quota handle + length bytes))

-- byte `at` of chunk i of class e, whether it is live or not, lies at `offset` of the region
pub record LiesAt (quota e i at offset : ℕ) : Type 0 where
  pub least : LEAST_EXPONENT ≤ e
  pub most : e ≤ GREATEST_EXPONENT
  pub area : i / per e < quota
  pub byte : at < size e
  pub is : chunk_offset quota (record { exp = e; index = i }) + at ≡ offset

-- each chunk lies at a multiple of its class's size, and so of 16
abbrev pub ChunksAreAligned : Type 0
ChunksAreAligned = (quota : ℕ) (h : Handle) → IsClass h.exp
    → (chunk_offset quota h % size h.exp ≡ 0) × (chunk_offset quota h % 16 ≡ 0)
