-- Bytes that are laid with their places, read again.
use Rattle.std.proofs.Common.{◌≡◌, ℕ, zero, suc, ◌+◌, ◌-◌, ◌*◌, ◌^◌, ◌<◌, List, [], ◌∷◌, ◌++◌, length, take, drop, get_or, refl, sym, ap, ◌∙◌, arith}
use Rattle.std.specs.Int.{w64, to_le_bytes, from_le_bytes}
use Rattle.std.specs.List.{flat_map}
use Rattle.std.proofs.lemmas.List.{length-append, drop-drop, drop_at, take_at, get_or-append-add, length-take}
use Rattle.std.proofs.lemmas.List.FromFn.{length-map-range_with_len, get_or-map-range_with_len}
use Rattle.std.proofs.lemmas.Grind.{same_number_lists}
use Rattle.std.proofs.lemmas.Nat.{from_le_bytes-to_le_bytes_8}
use Rattle.dym_pack.specs.Layouts.{HasOffsets, laid, word_of, end_of, bytes_of, count_of, offsets_of, IsLaid}

pub length_words : (xs : List ℕ) → length (flat_map (to_le_bytes w64) xs) ≡ 8 * length xs
length_words [] = refl
length_words (x ∷ xs) = length-append (to_le_bytes w64 x) (flat_map (to_le_bytes w64) xs) ∙ omega (arith, length_words xs)

-- the k-th of some words
word_there : (xs : List ℕ) (k : ℕ) → k < length xs → get_or xs k 0 < 2 ^ 64 → from_le_bytes w64 (take 8 (drop (8 * k) (flat_map (to_le_bytes w64) xs))) ≡ get_or xs k 0
word_there [] k within small = absurd (omega (arith, within))
word_there (x ∷ xs) zero within small = from_le_bytes-to_le_bytes_8 x small
word_there (x ∷ xs) (suc k) within small =
    let all : List ℕ = to_le_bytes w64 x ++ flat_map (to_le_bytes w64) xs in
    let far : 8 * suc k ≡ 8 + 8 * k = omega arith in
    ap (λ n. from_le_bytes w64 (take 8 (drop n all))) far
    ∙ ap (λ bytes. from_le_bytes w64 (take 8 bytes)) (sym (drop-drop (8 * k) 8 all))
    ∙ word_there xs k (omega arith) small

-- the k-th place behind bytes
word_behind : (bytes xs : List ℕ) (k : ℕ) → k < length xs → get_or xs k 0 < 2 ^ 64 → word_of (laid bytes xs) (length bytes + 8 * k) ≡ get_or xs k 0
word_behind bytes xs k within small =
    ap (λ ys. from_le_bytes w64 (take 8 ys))
    (sym (drop-drop (8 * k) (length bytes) (laid bytes xs))
    ∙ ap (drop (8 * k)) (drop_at bytes (flat_map (to_le_bytes w64) xs) (length bytes) refl))
    ∙ word_there xs k within small

pub length_laid : (bytes xs : List ℕ) → length (laid bytes xs) ≡ length bytes + 8 * length xs
length_laid bytes xs = length-append bytes (flat_map (to_le_bytes w64) xs) ∙ omega (arith, length_words xs)

-- places of 64 bits, of which the last is where some bytes end
pub record AreEnded (bytes xs : List ℕ) : Type 0 where
  pub before : List ℕ
  pub ended : xs ≡ before ++ length bytes ∷ []
  pub small : (k : ℕ) → get_or xs k 0 < 2 ^ 64

length_ended : (bytes xs : List ℕ) (is : AreEnded bytes xs) → length xs ≡ length is.before + 1
length_ended bytes xs is = ap length is.ended ∙ length-append is.before (length bytes ∷ [])

last_is : (bytes xs : List ℕ) (is : AreEnded bytes xs) → get_or xs (length is.before) 0 ≡ length bytes
last_is bytes xs is =
    let here : length is.before ≡ length is.before + 0 = omega arith in
    ap (λ ys. get_or ys (length is.before) 0) is.ended
    ∙ ap (λ n. get_or (is.before ++ length bytes ∷ []) n 0) here
    ∙ get_or-append-add is.before (length bytes ∷ []) 0 0

pub end_is : (bytes xs : List ℕ) → AreEnded bytes xs → end_of (laid bytes xs) ≡ length bytes
end_is bytes xs is =
    let k : ℕ = length is.before in
    let many = length_ended bytes xs is in
    let at : length (laid bytes xs) - 8 ≡ length bytes + 8 * k = omega (arith, many, length_laid bytes xs) in
    ap (word_of (laid bytes xs)) at
    ∙ word_behind bytes xs k (omega (arith, many)) (is.small k)
    ∙ last_is bytes xs is

count_is : (bytes xs : List ℕ) → AreEnded bytes xs → count_of (laid bytes xs) ≡ length xs
count_is bytes xs is = omega (arith, end_is bytes xs is, length_laid bytes xs)

pub laid_is : (bytes xs : List ℕ) → AreEnded bytes xs → IsLaid (laid bytes xs)
laid_is bytes xs is = record {
  some = omega (arith, end_is bytes xs is, length_laid bytes xs, length_ended bytes xs is);
  whole = omega (arith, end_is bytes xs is, length_laid bytes xs, count_is bytes xs is);
}

bytes_are : (bytes xs : List ℕ) → AreEnded bytes xs → bytes_of (laid bytes xs) ≡ bytes
bytes_are bytes xs is =
    ap (λ n. take n (laid bytes xs)) (end_is bytes xs is)
    ∙ take_at bytes (flat_map (to_le_bytes w64) xs) (length bytes) refl

places_are : (bytes xs : List ℕ) → AreEnded bytes xs → offsets_of (laid bytes xs) ≡ xs
places_are bytes xs is =
    let all : List ℕ = laid bytes xs in
    let read : ℕ → ℕ = λ k. word_of all (end_of all + 8 * k) in
    let n : ℕ = count_of all in
    let many : length (offsets_of all) ≡ n = length-map-range_with_len read 0 n in
    same_number_lists (offsets_of all) xs (many ∙ count_is bytes xs is) (λ k within.
    get_or-map-range_with_len read 0 n k k 0 (omega (arith, within, many)) (omega arith)
    ∙ ap (λ e. word_of all (e + 8 * k)) (end_is bytes xs is)
    ∙ word_behind bytes xs k (omega (arith, within, many, count_is bytes xs is)) (is.small k))

abbrev placed : List ℕ → List ℕ → HasOffsets
placed bytes xs = record { bytes = bytes; offsets = xs }

-- what was laid is seen as it was
pub seen_as : (bytes xs all : List ℕ) → AreEnded bytes xs → all ≡ laid bytes xs → placed (bytes_of all) (offsets_of all) ≡ placed bytes xs
seen_as bytes xs all is same =
    ap (λ ys. placed (bytes_of ys) (offsets_of ys)) same
    ∙ ap (λ bs. placed bs (offsets_of (laid bytes xs))) (bytes_are bytes xs is)
    ∙ ap (λ ps. placed bytes ps) (places_are bytes xs is)

pub bytes_end : (all : List ℕ) → IsLaid all → length (bytes_of all) ≡ end_of all
bytes_end all is = length-take (end_of all) all ∙ omega (arith, is.some)

-- a place of those that are seen
pub place_at : (all : List ℕ) (k : ℕ) → k < length (offsets_of all) → get_or (offsets_of all) k 0 ≡ word_of all (end_of all + 8 * k)
place_at all k within =
    let read : ℕ → ℕ = λ i. word_of all (end_of all + 8 * i) in
    let many = length-map-range_with_len read 0 (count_of all) in
    get_or-map-range_with_len read 0 (count_of all) k k 0 (omega (arith, within, many)) (omega arith)

pub places_count : (all : List ℕ) → length (offsets_of all) ≡ count_of all
places_count all = length-map-range_with_len (λ i. word_of all (end_of all + 8 * i)) 0 (count_of all)
