-- What stands before the packed chunks of an area.
use Rattle.std.proofs.Common.{◌≡◌, ℕ, ◌+◌, ◌/◌, ◌<◌, ◌≤◌, max, List, ◌++◌, length, ◌∙◌, ap, arith}
use Rattle.std.specs.FinSet.{contains}
use Rattle.std.proofs.lemmas.List.{length-append, append-nil, append_assoc}
use Rattle.dym_base.specs.Heaps.{Live, held}
use Rattle.dym_base.specs.Packed.{Logged, bitmap, touched_bits}
use Rattle.dym_base.specs.declared.command.Kind.TheVariants.{Full, Inc}
use Rattle.dym_pack.specs.Areas.{area_at, chunks_of, chunk_number, is_used_at}
use Rattle.dym_pack.specs.Offsets.{name_bytes, use_map, touched_map, area_head}
use Rattle.dym_pack.proofs.Bitmaps.{length_bitmap}
use Rattle.dym_pack.proofs.Named.{few_chunks}

-- the bitmaps of an area
abbrev pub maps : Logged → ℕ → List ℕ
maps log k = use_map log k ++ touched_map log k

pub maps_full : (log : Logged) (k : ℕ) → log.kind ≡ Full → maps log k ≡ use_map log k
maps_full log k is = ap (λ d. use_map log k ++ touched_bits d (chunks_of log.copy k) (λ i. contains log.found (chunk_number log.copy k i))) is ∙ append-nil (use_map log k)

pub maps_inc : (log : Logged) (k : ℕ) → log.kind ≡ Inc → maps log k ≡ use_map log k ++ bitmap (chunks_of log.copy k) (λ i. contains log.found (chunk_number log.copy k i))
maps_inc log k is = ap (λ d. use_map log k ++ touched_bits d (chunks_of log.copy k) (λ i. contains log.found (chunk_number log.copy k i))) is

pub maps_len_full : (log : Logged) (k : ℕ) → log.kind ≡ Full → length (maps log k) ≡ max 1 (chunks_of log.copy k / 8)
maps_len_full log k is = ap length (maps_full log k is) ∙ length_bitmap (chunks_of log.copy k) (is_used_at log.copy k)

pub maps_len_inc : (log : Logged) (k : ℕ) → log.kind ≡ Inc → length (maps log k) ≡ max 1 (chunks_of log.copy k / 8) + max 1 (chunks_of log.copy k / 8)
maps_len_inc log k is =
    let n = chunks_of log.copy k in
    ap length (maps_inc log k is)
    ∙ length-append (use_map log k) (bitmap n (λ i. contains log.found (chunk_number log.copy k i)))
    ∙ ap (λ x. x + length (bitmap n (λ i. contains log.found (chunk_number log.copy k i)))) (length_bitmap n (is_used_at log.copy k))
    ∙ ap (λ x. max 1 (n / 8) + x) (length_bitmap n (λ i. contains log.found (chunk_number log.copy k i)))

pub maps_least : (log : Logged) (k : ℕ) → max 1 (chunks_of log.copy k / 8) ≤ length (maps log k)
maps_least log k = omega (arith, length-append (use_map log k) (touched_map log k), length_bitmap (chunks_of log.copy k) (is_used_at log.copy k))

pub map_few : (live : Live) (k : ℕ) → k < held live → max 1 (chunks_of live k / 8) ≤ 256
map_few live k within = omega (arith, few_chunks live k within)

pub head_is : (log : Logged) (k : ℕ) → area_head log k ≡ name_bytes (area_at log.copy k).exponent (area_at log.copy k).ordinal ++ maps log k
head_is log k = append_assoc (name_bytes (area_at log.copy k).exponent (area_at log.copy k).ordinal) (use_map log k) (touched_map log k)

pub head_len : (log : Logged) (k : ℕ) → length (area_head log k) ≡ 5 + length (maps log k)
head_len log k =
    ap length (head_is log k)
    ∙ length-append (name_bytes (area_at log.copy k).exponent (area_at log.copy k).ordinal) (maps log k)
