-- Which chunks of a record are used in the one before it, area by area.
use Rattle.std.proofs.Common.{◌≡◌, ℕ, ◌+◌, ◌*◌, ◌/◌, ◌^◌, ◌<◌, Bool, true, false, ◌&&◌, nat_lt, is_some, Some, None, List, refl, sym, ap, subst, ◌∙◌, arith, inl, inr}
use Rattle.std.specs.FinMap.{get, contains_key}
use Rattle.std.proofs.lemmas.Bool.{cases_lt, true≢false}
use Rattle.std.proofs.lemmas.Nat.{div-mul-add}
use Rattle.dym_base.specs.Numbers.{per, number, exponent_of}
use Rattle.dym_base.specs.Heaps.{Live, held}
use Rattle.dym_base.specs.Packed.{Logged, packs_by}
use Rattle.dym_base.specs.Recorded.{IsRecorded}
use Rattle.dym_base.proofs.Sizes.{exponent_of_number}
use Rattle.dym_bits.specs.Bits.{bit_in}
use Rattle.dym_pack.specs.Areas.{AreaName, area_at, chunks_of, chunk_number, is_used_at}
use Rattle.dym_pack.specs.ParsedAreas.{packs_at}
use Rattle.dym_pack.proofs.Bitmaps.{bit_told, clear_past}
use Rattle.dym_pack.proofs.Chunks.{parts, packable}
use Rattle.dym_pack.proofs.Named.{few_chunks, index_small, ordinal_small}
use Rattle.dym_heap.proofs.AreaLists.{LiesIn, lies_in}
use Rattle.dym_ckpt.specs.RecordOrder.{IsBased, AreaIsBased, named}

-- a chunk of a log lies in one of its areas
pub chunk_lies : (log : Logged) → IsRecorded log → (k : ℕ) → contains_key log.copy k ≡ true → LiesIn log.copy k
chunk_lies log ok k has =
    elim (get log.copy k) as (λ o. get log.copy k ≡ o → is_some o ≡ true → LiesIn log.copy k) [
      | Some bytes ↦ λ is some. (let fits = ok.sized k bytes is in lies_in log.copy k fits.0 fits.1 has)
      | None ↦ λ is some. absurd (true≢false (sym some))
    ] refl has

pub based_by_areas : (b log : Logged) → IsRecorded log → ((a : ℕ) → a < held log.copy → AreaIsBased b log a) → IsBased b log
based_by_areas b log ok each k has none =
    let at = chunk_lies log ok k has in
    subst (λ q. contains_key b.copy q ≡ true) (sym at.is)
    (each at.k at.within at.i at.inside
    (ap (contains_key log.copy) (sym at.is) ∙ has)
    (ap (packs_by log.kind log.copy log.found) (sym at.is) ∙ none))

-- ---- chunks of one area in two logs

-- the numbers of the chunks of areas of one name
pub same_numbers : (m n : Live) (p a i : ℕ) → area_at m p ≡ area_at n a → chunk_number m p i ≡ chunk_number n a i
same_numbers m n p a i same = ap (λ (x : AreaName). number x.exponent (x.ordinal * per x.exponent + i)) same

-- a number is in areas of one name alone
index_at : (log : Logged) → IsRecorded log → (a i : ℕ) → a < held log.copy → i < chunks_of log.copy a → (area_at log.copy a).ordinal * chunks_of log.copy a + i < 2 ^ 32
index_at log ok a i within inside =
    index_small (area_at log.copy a).ordinal (chunks_of log.copy a) i (ordinal_small (parts log) (packable log ok) a within) (few_chunks log.copy a within) inside

pub same_name : (e o i f p j : ℕ) → i < per e → j < per f → o * per e + i < 2 ^ 32 → p * per f + j < 2 ^ 32 → number e (o * per e + i) ≡ number f (p * per f + j) → named e o ≡ named f p
same_name e o i f p j inside also small fits same =
    let classes : e ≡ f = sym (exponent_of_number e (o * per e + i) small) ∙ ap exponent_of same ∙ exponent_of_number f (p * per f + j) fits in
    let indices : o * per e + i ≡ p * per f + j = omega (arith, classes, same) in
    let ordinals : o ≡ p
    = sym (div-mul-add o (per e) i inside)
    ∙ ap (λ n. n / per e) indices
    ∙ ap (λ x. (p * per f + j) / per x) classes
    ∙ div-mul-add p (per f) j also in
    ap (λ x. named x o) classes ∙ ap (named f) ordinals

-- the area of a chunk that is used in another log is there too
pub area_there : (b log : Logged) → IsRecorded b → IsRecorded log → (a i : ℕ) → a < held log.copy → i < chunks_of log.copy a → contains_key b.copy (chunk_number log.copy a i) ≡ true → (p : ℕ) × (p < held b.copy) × (area_at b.copy p ≡ area_at log.copy a)
area_there b log ok also a i within inside has =
    let at = chunk_lies b ok (chunk_number log.copy a i) has in
    let x = area_at log.copy a in
    let y = area_at b.copy at.k in (
      at.k,
      at.within,
      same_name y.exponent y.ordinal at.i x.exponent x.ordinal i at.inside inside (index_at b ok at.k at.i at.within at.inside) (index_at log also a i within inside) (sym at.is),
    )

-- ---- what their bits say

-- the bits are those of the first n of a choice
abbrev pub AreBits : List Bool → ℕ → (ℕ → Bool) → Type 0
AreBits bits n f = (i : ℕ) → bit_in bits i ≡ (nat_lt i n && f i)

pub set_inside : (bits : List Bool) (n : ℕ) (f : ℕ → Bool) (i : ℕ) → AreBits bits n f → bit_in bits i ≡ true → (i < n) × (f i ≡ true)
set_inside bits n f i are set =
    elim (cases_lt i n) as (λ _. (i < n) × (f i ≡ true)) [
      | inl inside ↦ (inside, sym (bit_told n i (f i) (bit_in bits i) (are i) inside) ∙ set)
      | inr past ↦ absurd (true≢false (sym set ∙ clear_past n bits f are i past))
    ]

pub told_inside : (bits : List Bool) (n : ℕ) (f : ℕ → Bool) (i : ℕ) → AreBits bits n f → i < n → bit_in bits i ≡ f i
told_inside bits n f i are inside = bit_told n i (f i) (bit_in bits i) (are i) inside

-- an area whose used chunks are packed or used in the area of that name of the other log
pub based_by_bits : (b log : Logged) (a p : ℕ) (used packed before : List Bool) → AreBits used (chunks_of log.copy a) (is_used_at log.copy a) → AreBits packed (chunks_of log.copy a) (packs_at log a) → AreBits before (chunks_of b.copy p) (is_used_at b.copy p) → area_at b.copy p ≡ area_at log.copy a
    → ((i : ℕ) → bit_in used i ≡ true → bit_in packed i ≡ false → bit_in before i ≡ true) → AreaIsBased b log a
based_by_bits b log a p used packed before are_used are_packed are_before same covered i inside has none =
    let set : bit_in used i ≡ true = told_inside used (chunks_of log.copy a) (is_used_at log.copy a) i are_used inside ∙ has in
    let clear : bit_in packed i ≡ false = told_inside packed (chunks_of log.copy a) (packs_at log a) i are_packed inside ∙ none in
    let there = set_inside before (chunks_of b.copy p) (is_used_at b.copy p) i are_before (covered i set clear) in
    ap (contains_key b.copy) (sym (same_numbers b.copy log.copy p a i same)) ∙ there.1

-- one all of whose used chunks are packed
pub based_by_itself : (b log : Logged) (a : ℕ) (used packed none : List Bool) → AreBits used (chunks_of log.copy a) (is_used_at log.copy a) → AreBits packed (chunks_of log.copy a) (packs_at log a) → ((i : ℕ) → bit_in none i ≡ false)
    → ((i : ℕ) → bit_in used i ≡ true → bit_in packed i ≡ false → bit_in none i ≡ true) → AreaIsBased b log a
based_by_itself b log a used packed none are_used are_packed empty covered i inside has other =
    let set : bit_in used i ≡ true = told_inside used (chunks_of log.copy a) (is_used_at log.copy a) i are_used inside ∙ has in
    let clear : bit_in packed i ≡ false = told_inside packed (chunks_of log.copy a) (packs_at log a) i are_packed inside ∙ other in
    absurd (true≢false (sym (covered i set clear) ∙ empty i))

-- a chunk that is used and not packed
pub bare_chunk : (b log : Logged) (a i : ℕ) (used packed : List Bool) → AreBits used (chunks_of log.copy a) (is_used_at log.copy a) → AreBits packed (chunks_of log.copy a) (packs_at log a) → bit_in used i ≡ true → bit_in packed i ≡ false → AreaIsBased b log a → (i < chunks_of log.copy a) × (contains_key b.copy (chunk_number log.copy a i) ≡ true)
bare_chunk b log a i used packed are_used are_packed set clear is =
    let here = set_inside used (chunks_of log.copy a) (is_used_at log.copy a) i are_used set in
    (here.0, is i here.0 here.1 (sym (told_inside packed (chunks_of log.copy a) (packs_at log a) i are_packed here.0) ∙ clear))

-- that isn't used in the area of that name
pub bare_there : (b log : Logged) (a p i : ℕ) (used packed before : List Bool) → AreBits used (chunks_of log.copy a) (is_used_at log.copy a) → AreBits packed (chunks_of log.copy a) (packs_at log a) → AreBits before (chunks_of b.copy p) (is_used_at b.copy p) → area_at b.copy p ≡ area_at log.copy a
    → bit_in used i ≡ true → bit_in packed i ≡ false → bit_in before i ≡ false → AreaIsBased b log a → ⊥
bare_there b log a p i used packed before are_used are_packed are_before same set clear also is =
    let here = bare_chunk b log a i used packed are_used are_packed set clear is in
    let inside : i < chunks_of b.copy p = subst (λ (x : AreaName). i < per x.exponent) (sym same) here.0 in
    let no : is_used_at b.copy p i ≡ false = sym (told_inside before (chunks_of b.copy p) (is_used_at b.copy p) i are_before inside) ∙ also in
    true≢false (sym here.1 ∙ ap (contains_key b.copy) (sym (same_numbers b.copy log.copy p a i same)) ∙ no)

pub named_is : (live : Live) (a e o : ℕ) → e ≡ (area_at live a).exponent → o ≡ (area_at live a).ordinal → named e o ≡ area_at live a
named_is live a e o class ordinal = ap (λ x. named x o) class ∙ ap (named (area_at live a).exponent) ordinal
