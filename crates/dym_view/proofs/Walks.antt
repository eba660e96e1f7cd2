-- How many chunks a heap can have: a walk over them counts no further than this.
use Rattle.std.proofs.Common.{◌≡◌, ℕ, ◌+◌, ◌-◌, ◌*◌, ◌/◌, ◌%◌, ◌^◌, ◌<◌, ◌≤◌, min, true, arith, refl, pow_pos, ap, length, length-append, vec_len}
use Rattle.std.proofs.lemmas.List.{length-map}
use Rattle.std.specs.FinMap.{contains_key}
use Rattle.std.proofs.Math.Nat.{div-lt_iff_lt-mul}
use Rattle.dym_base.specs.Numbers.{per, exponent_of, index_of}
use Rattle.dym_base.specs.Heaps.{areas}
use Rattle.dym_base.proofs.Heaps.{areas_below, areas_held}
use Rattle.dym_heap.specs.Meaning.{HeapMeaning, IsSound}
use Rattle.dym_pack.proofs.Named.{most_per}
use Rattle.dym_view.specs.Copies.{entry_at, entries_of}
use Rattle.dym_view.specs.declared.chunk_copies.ChunkCopies.{ChunkCopies}
use Rattle.dym_view.proofs.Entries.{Chunks, IsMet}

-- at most so many chunks have a number below k, where each class has at most 2 ^ 21
abbrev pub rank : ℕ → ℕ
rank k = k / 2 ^ 32 * 2 ^ 21 + min (k % 2 ^ 32) (2 ^ 21)

-- one chunk more counts one more
pub rank_step : (from k : ℕ) → from ≤ k → k % 2 ^ 32 < 2 ^ 21 → rank from + 1 ≤ rank (k + 1)
rank_step from k le small =
    let class : from / 2 ^ 32 ≤ k / 2 ^ 32 = omega arith in
    let same : (k + 1) / 2 ^ 32 ≡ k / 2 ^ 32 = omega arith in
    let next : (k + 1) % 2 ^ 32 ≡ k % 2 ^ 32 + 1 = omega arith in
    omega arith

pub rank_few : (k : ℕ) → k / 2 ^ 32 ≤ 16 → k % 2 ^ 32 < 2 ^ 21 → rank (k + 1) ≤ 2 ^ 26
rank_few k low small =
    let same : (k + 1) / 2 ^ 32 ≡ k / 2 ^ 32 = omega arith in
    omega arith

-- the index of a live chunk is small, since the heap's areas are few
pub small_index : (h : HeapMeaning) (k : ℕ) → IsSound h → contains_key h.state.live k ≡ true → index_of k < 2 ^ 21
small_index h k sound is =
    let e : ℕ = exponent_of k in
    let least = sound.least_class k is in
    let most = sound.most_class k is in
    let few : areas h.state.live e ≤ 1024 = omega (arith, areas_held h.state.live e least most, sound.within, sound.quota_most) in
    let row : index_of k / per e < 1024 = (areas_below h.state.live e 1024).0 few k is refl in
    let within : index_of k < 1024 * per e = (div-lt_iff_lt-mul (pow_pos (16 - e))).0 row in
    omega (arith, within, most_per e least)

-- no more were copied than there are
pub count_within : (all : Chunks) (c : ChunkCopies) (from : ℕ) → IsMet all (entries_of c) from → vec_len c.chunk_ranges ≤ length all
count_within all c from is =
    omega (arith, ap length is.whole, length-append (entries_of c) is.left, length-map c.chunk_ranges.items (entry_at c.bytes.items), c.chunk_ranges.ok.0)
