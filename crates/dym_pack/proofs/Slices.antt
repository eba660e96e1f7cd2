-- The parts of a log's bytes by their places.
use Rattle.std.proofs.Common.{◌≡◌, ℕ, ◌+◌, ◌/◌, ◌^◌, ◌<◌, ◌≤◌, max, [], ◌∷◌, ◌++◌, length, map, take, drop, get_or, refl, sym, ap, ◌∙◌, arith}
use Rattle.std.specs.Int.{w32, w64, to_le_bytes, from_le_bytes}
use Rattle.std.specs.List.{range_with_len}
use Rattle.std.specs.FinSet.{contains}
use Rattle.std.proofs.lemmas.List.{take_at, drop_at, drop-drop, append_assoc, get_or-drop, get_or_append_left}
use Rattle.std.proofs.lemmas.List.FromFn.{length-map-range_with_len, get_or-map-range_with_len, map-range_with_len_more}
use Rattle.std.proofs.lemmas.Nat.{from_le_bytes-to_le_bytes_4, from_le_bytes-to_le_bytes_8}
use Rattle.dym_base.specs.Heaps.{held}
use Rattle.dym_base.specs.Packed.{Logged, bitmap, packed, kind_byte, packs_by}
use Rattle.dym_base.specs.declared.command.Kind.TheVariants.{Inc}
use Rattle.dym_pack.specs.Areas.{area_at, chunks_of, chunk_number, is_used_at}
use Rattle.dym_base.specs.Recorded.{IsRecorded}
use Rattle.dym_pack.specs.ParsedAreas.{body_from, packs_at}
use Rattle.dym_pack.specs.Offsets.{start_of, starts_of, use_map, touched_map, area_head, name_bytes}
use Rattle.dym_pack.proofs.Bitmaps.{length_bitmap, bitmap_same}
use Rattle.dym_pack.proofs.Heads.{head_len, maps_least, maps_len_inc}
use Rattle.dym_pack.proofs.Named.{ordinal_small}
use Rattle.dym_pack.proofs.Chunks.{parts, packable}
use Rattle.dym_pack.proofs.Fronts.{packed_is, area_is_parts, area_len_is, at_area, rest_from, start_none, start_more, start_within, start_last}

-- ---- the starts

pub length_starts : (log : Logged) → length (starts_of log) ≡ held log.copy + 1
unfolding starts_of
length_starts log = length-map-range_with_len (start_of log) 0 (held log.copy + 1)

pub starts_at : (log : Logged) (k : ℕ) → k ≤ held log.copy → get_or (starts_of log) k 0 ≡ start_of log k
unfolding starts_of
starts_at log k within = get_or-map-range_with_len (start_of log) 0 (held log.copy + 1) k k 0 (omega arith) (omega arith)

-- the last of them is where the bytes end
pub starts_end : (log : Logged) → starts_of log ≡ map (start_of log) (range_with_len 0 (held log.copy)) ++ length (packed log) ∷ []
unfolding starts_of
starts_end log =
    map-range_with_len_more (start_of log) 0 (held log.copy) (held log.copy) (omega arith)
    ∙ ap (λ n. map (start_of log) (range_with_len 0 (held log.copy)) ++ n ∷ []) (start_last log (held log.copy) (omega arith))

-- ---- the header

pub packed_least : (log : Logged) → 13 ≤ length (packed log)
packed_least log = omega (arith, start_none log, start_within log 0)

pub first_byte : (log : Logged) → get_or (packed log) 0 0 ≡ kind_byte log.version log.kind
first_byte log = ap (λ bytes. get_or bytes 0 0) (packed_is log)

pub time_bytes : (log : Logged) → log.time < 2 ^ 64 → from_le_bytes w64 (take 8 (drop 1 (packed log))) ≡ log.time
time_bytes log small = ap (λ bytes. from_le_bytes w64 (take 8 (drop 1 bytes))) (packed_is log) ∙ from_le_bytes-to_le_bytes_8 log.time small

-- ---- an area

pub area_parts_at : (log : Logged) (k : ℕ) → k < held log.copy → drop (start_of log k) (packed log) ≡ (area_at log.copy k).exponent ∷ (to_le_bytes w32 (area_at log.copy k).ordinal ++ (use_map log k ++ (touched_map log k ++ (body_from log k 0 ++ rest_from log (k + 1)))))
area_parts_at log k within =
    let name = name_bytes (area_at log.copy k).exponent (area_at log.copy k).ordinal in
    let rest = rest_from log (k + 1) in
    at_area log k within
    ∙ ap (λ ys. ys ++ rest) (area_is_parts log k)
    ∙ append_assoc (area_head log k) (body_from log k 0) rest
    ∙ append_assoc (name ++ use_map log k) (touched_map log k) (body_from log k 0 ++ rest)
    ∙ append_assoc name (use_map log k) (touched_map log k ++ (body_from log k 0 ++ rest))

pub exponent_read : (log : Logged) (k : ℕ) → k < held log.copy → get_or (packed log) (start_of log k) 0 ≡ (area_at log.copy k).exponent
exponent_read log k within =
    let here : start_of log k ≡ start_of log k + 0 = omega arith in
    ap (λ i. get_or (packed log) i 0) here
    ∙ sym (get_or-drop (start_of log k) (packed log) 0 0)
    ∙ ap (λ bytes. get_or bytes 0 0) (area_parts_at log k within)

pub ordinal_read : (log : Logged) → IsRecorded log → (k : ℕ) → k < held log.copy → from_le_bytes w32 (take 4 (drop (start_of log k + 1) (packed log))) ≡ (area_at log.copy k).ordinal
ordinal_read log ok k within =
    ap (λ bytes. from_le_bytes w32 (take 4 bytes)) (sym (drop-drop 1 (start_of log k) (packed log)) ∙ ap (drop 1) (area_parts_at log k within))
    ∙ from_le_bytes-to_le_bytes_4 (area_at log.copy k).ordinal (omega (arith, ordinal_small (parts log) (packable log ok) k within))

after_name : (log : Logged) (k : ℕ) → k < held log.copy → drop (start_of log k + 5) (packed log) ≡ use_map log k ++ (touched_map log k ++ (body_from log k 0 ++ rest_from log (k + 1)))
after_name log k within = sym (drop-drop 5 (start_of log k) (packed log)) ∙ ap (drop 5) (area_parts_at log k within)

pub use_read : (log : Logged) (k map : ℕ) → k < held log.copy → map ≡ max 1 (chunks_of log.copy k / 8) → take map (drop (start_of log k + 5) (packed log)) ≡ use_map log k
use_read log k map within long =
    ap (take map) (after_name log k within)
    ∙ take_at (use_map log k) _ map (length_bitmap (chunks_of log.copy k) (is_used_at log.copy k) ∙ sym long)

pub touched_read : (log : Logged) (k map : ℕ) → k < held log.copy → log.kind ≡ Inc → map ≡ max 1 (chunks_of log.copy k / 8) → take map (drop (start_of log k + 5 + map) (packed log)) ≡ bitmap (chunks_of log.copy k) (packs_at log k)
touched_read log k map within inc long =
    let n = chunks_of log.copy k in
    let is_touched = λ (i : ℕ). contains log.found (chunk_number log.copy k i) in
    let found : touched_map log k ≡ bitmap n is_touched = ap (λ d. Rattle.dym_base.specs.Packed.touched_bits d n is_touched) inc in
    let rest = body_from log k 0 ++ rest_from log (k + 1) in
    ap (take map)
    (sym (drop-drop map (start_of log k + 5) (packed log))
    ∙ ap (drop map) (after_name log k within)
    ∙ drop_at (use_map log k) (touched_map log k ++ rest) map (length_bitmap n (is_used_at log.copy k) ∙ sym long)
    ∙ ap (λ bytes. bytes ++ rest) found)
    ∙ take_at (bitmap n is_touched) rest map (length_bitmap n is_touched ∙ sym long)
    ∙ bitmap_same n is_touched (packs_at log k) (λ i h. ap (λ d. packs_by d log.copy log.found (chunk_number log.copy k i)) (sym inc))

pub area_ends : (log : Logged) (k : ℕ) → k < held log.copy → start_of log (k + 1) ≡ start_of log k + (length (area_head log k) + length (body_from log k 0))
area_ends log k within = omega (arith, start_more log k within, area_len_is log k)

pub use_fits : (log : Logged) (k : ℕ) → k < held log.copy → start_of log k + 5 + max 1 (chunks_of log.copy k / 8) ≤ length (packed log)
use_fits log k within = omega (arith, area_ends log k within, start_within log (k + 1), head_len log k, maps_least log k)

pub touched_fits : (log : Logged) (k : ℕ) → k < held log.copy → log.kind ≡ Inc → start_of log k + 5 + max 1 (chunks_of log.copy k / 8) + max 1 (chunks_of log.copy k / 8) ≤ length (packed log)
touched_fits log k within inc = omega (arith, area_ends log k within, start_within log (k + 1), head_len log k, maps_len_inc log k inc)

pub body_read : (log : Logged) (k n : ℕ) → k < held log.copy → n ≡ length (body_from log k 0) → take n (drop (start_of log k + length (area_head log k)) (packed log)) ≡ body_from log k 0
body_read log k n within long =
    ap (take n)
    (sym (drop-drop (length (area_head log k)) (start_of log k) (packed log))
    ∙ ap (drop (length (area_head log k))) (at_area log k within ∙ ap (λ ys. ys ++ rest_from log (k + 1)) (area_is_parts log k) ∙ append_assoc (area_head log k) (body_from log k 0) (rest_from log (k + 1)))
    ∙ drop_at (area_head log k) (body_from log k 0 ++ rest_from log (k + 1)) (length (area_head log k)) refl)
    ∙ take_at (body_from log k 0) (rest_from log (k + 1)) n (sym long)

pub use_at : (log : Logged) (k i : ℕ) → k < held log.copy → i < max 1 (chunks_of log.copy k / 8) → get_or (drop (start_of log k + 5) (packed log)) i 0 ≡ get_or (use_map log k) i 0
use_at log k i within inside =
    ap (λ bytes. get_or bytes i 0) (after_name log k within)
    ∙ get_or_append_left (use_map log k) _ 0 i (omega (arith, length_bitmap (chunks_of log.copy k) (is_used_at log.copy k)))
