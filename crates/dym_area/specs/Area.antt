-- What is seen of an area, and what its calls do with it.
use Rattle.std.specs.Prelude.{◌≡◌, ℕ, zero, suc, ◌+◌, ◌-◌, ◌*◌, ◌/◌, ◌^◌, ◌<◌, ◌≤◌, Bool, true, false, List, ◌++◌, length, replicate, slice_set}
use Rattle.std.specs.Int.{bit_at}
use Rattle.dym_base.specs.Numbers.{size, per}
use Rattle.dym_base.specs.declared.limits.TheConstants.{MOST_CHUNKS, SEGMENT_BYTES, LEAST_EXPONENT, GREATEST_EXPONENT}
use Rattle.dym_bits.specs.Bits.{IsSet, IsClear, bits_of_bytes, clear_bits}
use Rattle.dym_region.specs.Content.{with_part}
use Rattle.dym_region.specs.declared.segment.SegmentId.{SegmentId}

-- one segment cut into chunks of a class: which of them are used, which are dirty, and all the bytes
pub record AreaMeaning : Type 0 where
  pub exponent : ℕ
  pub ordinal : ℕ
  pub used : List Bool
  pub dirty : List Bool
  pub content : List ℕ
  pub identity : SegmentId

-- what is true of every area
pub record IsValidArea (area : AreaMeaning) : Type 0 where
  pub least : LEAST_EXPONENT ≤ area.exponent
  pub greatest : area.exponent ≤ GREATEST_EXPONENT
  pub used_len : length area.used ≡ MOST_CHUNKS
  pub dirty_len : length area.dirty ≡ MOST_CHUNKS
  pub used_below : (i : ℕ) → IsSet area.used i → i < per area.exponent
  pub dirty_used : (i : ℕ) → IsSet area.dirty i → IsSet area.used i
  pub content_len : length area.content ≡ SEGMENT_BYTES

-- one of the chunks below `count` is unused whose bits stand in word q, where 64 of them are
pub record HasRoom (used : List Bool) (count q : ℕ) : Type 0 where
  pub chunk : ℕ
  pub within : chunk < count
  pub word : chunk / 64 ≡ q
  pub unused : IsClear used chunk

-- the bits of `room` that are set are those of the words with an unused chunk
pub record IsSummary (used : List Bool) (count room : ℕ) : Type 0 where
  pub found : (q : ℕ) → bit_at room q ≡ 1 → HasRoom used count q
  pub marked : (i : ℕ) → i < count → IsClear used i → bit_at room (i / 64) ≡ 1

-- where the bytes of chunk i begin
abbrev pub chunk_start : AreaMeaning → ℕ → ℕ
chunk_start area i = i * size area.exponent

-- the used chunks lie within the first `filled` bytes
abbrev pub AreFilled : List Bool → ℕ → ℕ → Type 0
AreFilled used exponent filled = (i : ℕ) → IsSet used i → i * size exponent + size exponent ≤ filled

-- what an area keeps: a summary of its use bits, and that the bytes of its used chunks are real, as the first `filled` bytes of
-- its segment are
pub record IsSummedArea (area : AreaMeaning) (room filled : ℕ) : Type 0 where
  pub valid : IsValidArea area
  pub summed : IsSummary area.used (per area.exponent) room
  pub fits : room < 2 ^ 32
  pub real : AreFilled area.used area.exponent filled

-- the dirty bits after n bytes of chunk i were written
abbrev pub dirty_after : List Bool → ℕ → ℕ → List Bool
dirty_after dirty i zero = dirty
dirty_after dirty i (suc n) = slice_set dirty i true

-- the area after chunk i was taken: it is used, dirty and zero
abbrev pub with_taken : AreaMeaning → ℕ → AreaMeaning
with_taken area i =
    record area {
      used = slice_set area.used i true;
      dirty = slice_set area.dirty i true;
      content = with_part area.content (chunk_start area i) (replicate (size area.exponent) 0);
    }

-- the area after chunk i was given up
abbrev pub with_released : AreaMeaning → ℕ → AreaMeaning
with_released area i = record area { used = slice_set area.used i false; dirty = slice_set area.dirty i false }

-- the area after chunk i became used and clean, with these bytes at its front
abbrev pub with_put_back : AreaMeaning → ℕ → List ℕ → AreaMeaning
with_put_back area i bytes =
    record area {
      used = slice_set area.used i true;
      dirty = slice_set area.dirty i false;
      content = with_part area.content (chunk_start area i) bytes;
    }

-- the area after the bytes were written into chunk i from place `at` of the chunk on
abbrev pub with_written : AreaMeaning → ℕ → ℕ → List ℕ → AreaMeaning
with_written area i at bytes =
    record area {
      dirty = dirty_after area.dirty i (length bytes);
      content = with_part area.content (chunk_start area i + at) bytes;
    }

-- the area after the bytes were put over those of the chunks from chunk `from` on
abbrev pub with_loaded : AreaMeaning → ℕ → List ℕ → AreaMeaning
with_loaded area from bytes = record area { content = with_part area.content (chunk_start area from) bytes }

-- the area with no chunk dirty
abbrev pub with_clean : AreaMeaning → AreaMeaning
with_clean area = record area { dirty = clear_bits MOST_CHUNKS }

-- the area where chunk i is dirty or isn't, as `b` says, and each other one is as it was
abbrev pub with_dirty_at : AreaMeaning → ℕ → Bool → AreaMeaning
with_dirty_at area i b = record area { dirty = slice_set area.dirty i b }

-- the area whose use bits are those of the bytes, with no chunk dirty
abbrev pub with_used_bytes : AreaMeaning → List ℕ → AreaMeaning
with_used_bytes area bytes =
    record area {
      used = bits_of_bytes bytes ++ clear_bits (MOST_CHUNKS - 8 * length bytes);
      dirty = clear_bits MOST_CHUNKS;
    }
