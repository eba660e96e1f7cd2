-- The summary of the use bits: where a chunk is found, and what a chunk taken or given up changes.
use Rattle.std.proofs.Common.{◌≡◌, ℕ, ◌+◌, ◌-◌, ◌*◌, ◌/◌, ◌%◌, ◌^◌, ◌<◌, ◌≤◌, Bool, true, false, List, length, inl, inr, refl, sym, subst, ◌∙◌, ap, arith, min, bit_and, w32}
use Rattle.std.specs.Prelude.{Option, None, Some, MatchOption, slice_set}
use Rattle.std.specs.Int.{bit_at, bit_not, trailing_zeros}
use Rattle.std.proofs.Math.Nat.{pos_of_ne-zero}
use Rattle.std.proofs.lemmas.Bool.{cases_eq, cases_lt}
use Rattle.std.proofs.lemmas.List.{get_or-set_other}
use Rattle.std.proofs.lemmas.Grind.{get_or-set_at}
use Rattle.std.proofs.lemmas.Nat.Bits.{bit_at-lt, bit_at_and, bit_at-zero, bit_at_ones, bit_at_ones_above, ones_shr, bit_at-trailing_zeros, bit_at_clear_same, bit_at_clear_other}
use Rattle.dym_bits.specs.Bits.{bit_in, IsSet, IsClear, IsFirstClear, IsNextClearInWord}
use Rattle.dym_area.specs.Area.{HasRoom, IsSummary}

pub true_is_not_false : (b : Bool) → b ≡ true → b ≡ false → ⊥
true_is_not_false b is_true is_false = grind arith

one_is_not_none : (a : ℕ) → a ≡ 1 → a ≡ 0 → ⊥
one_is_not_none a one none = omega arith

-- a bit that isn't clear is set
set_or_clear : (b : Bool) → (b ≡ false → ⊥) → b ≡ true
set_or_clear true _ = refl
set_or_clear false not_clear = absurd (not_clear refl)

-- and one that is clear stays so where another is cleared
clear_still : (used : List Bool) (i k : ℕ) → i < length used → IsClear used k → IsClear (slice_set used i false) k
clear_still used i k within unused =
    elim (cases_eq k i) [
      | inl same ↦ get_or-set_at used i k false false same within
      | inr other ↦ get_or-set_other used i k false false other ∙ unused
    ]

-- a bit that is left after another was cleared was there before
left_of_cleared : (a b : ℕ) → a < 2 → min a b ≡ 1 → a ≡ 1
left_of_cleared a b few one = omega arith

module _ (used : List Bool) (count : ℕ) where
  not_both : (k : ℕ) → IsSet used k → IsClear used k → ⊥
  not_both k set unused = true_is_not_false (bit_in used k) set unused

  module _ (room : ℕ) (summed : IsSummary used count room) where
    -- a chunk whose word has no bit in the summary is used
    used_unmarked : (k : ℕ) → k < count → bit_at room (k / 64) ≡ 0 → IsSet used k
    used_unmarked k within none = set_or_clear (bit_in used k) (λ unused. one_is_not_none (bit_at room (k / 64)) (summed.marked k within unused) none)

    -- where no word has an unused chunk all chunks are used
    pub all_used : room ≡ 0 → (k : ℕ) → k < count → IsSet used k
    all_used none k within = used_unmarked k within (ap (λ n. bit_at n (k / 64)) none ∙ bit_at-zero (k / 64))

    module _ (fits : room < 2 ^ 32) where
      -- the first word that has an unused chunk
      abbrev first_word : ℕ
      first_word = trailing_zeros w32 room

      first_room : (room ≡ 0 → ⊥) → HasRoom used count first_word
      first_room some = summed.found first_word (bit_at-trailing_zeros w32 room (pos_of_ne-zero some) fits).1

      -- and only there
      pub none_marked : ((k : ℕ) → k < count → IsSet used k) → room ≡ 0
      none_marked all =
          elim (cases_eq room 0) [
            | inl none ↦ none
            | inr some ↦ (let has = first_room some in absurd (not_both has.chunk (all has.chunk has.within) has.unused))
          ]

      module _ (some : room ≡ 0 → ⊥) where
        -- the least unused chunk is the first one in that word
        first_found : (i : ℕ) → IsNextClearInWord used (first_word * 64) i → IsFirstClear used count i
        first_found i here =
            let has = first_room some in
            let found = bit_at-trailing_zeros w32 room (pos_of_ne-zero some) fits in
            let within : i < count
            = elim (cases_lt has.chunk i) [
              | inl before ↦ absurd (not_both has.chunk (here.next.least has.chunk (omega (arith, has.word)) before) has.unused)
              | inr after ↦ omega (arith, has.within)
            ] in
            record {
              below = within;
              is_clear = here.next.is_clear;
              least = λ k before.
                  elim (cases_lt k (first_word * 64)) [
                    | inl earlier ↦ used_unmarked k (omega arith) (found.2 (k / 64) (omega arith))
                    | inr here_on ↦ here.next.least k here_on before
                  ];
            }

        -- what the search in that word answers
        pub word_searched : (answer : Option ℕ) → MatchOption answer ((k : ℕ) → first_word * 64 ≤ k → k / 64 ≡ first_word * 64 / 64 → IsSet used k) (IsNextClearInWord used (first_word * 64)) → MatchOption answer ((k : ℕ) → k < count → IsSet used k) (IsFirstClear used count)
        word_searched None none =
            let has = first_room some in
            absurd (not_both has.chunk (none has.chunk (omega (arith, has.word)) (omega (arith, has.word))) has.unused)
        word_searched (Some i) here = first_found i here

  -- ---- a chunk given up

  pub summary_released : (room after i : ℕ) → i < length used → i < count → IsSummary used count room → bit_at after (i / 64) ≡ 1 → ((q : ℕ) → (q ≡ i / 64 → ⊥) → bit_at after q ≡ bit_at room q) → IsSummary (slice_set used i false) count after
  summary_released room after i within below summed same others = record {
    found = λ q one.
        elim (cases_eq q (i / 64)) [
          | inl here ↦ record { chunk = i; within = below; word = sym here; unused = get_or-set_at used i i false false refl within }
          | inr elsewhere ↦
              let has = summed.found q (sym (others q elsewhere) ∙ one) in
              record { chunk = has.chunk; within = has.within; word = has.word; unused = clear_still used i has.chunk within has.unused }
        ];
    marked = λ k under unused.
        elim (cases_eq (k / 64) (i / 64)) [
          | inl here ↦ ap (bit_at after) here ∙ same
          | inr elsewhere ↦
              others (k / 64) elsewhere
              ∙ summed.marked k under (sym (get_or-set_other used i k false false (λ alike. elsewhere (ap (λ j. j / 64) alike))) ∙ unused)
        ];
  }

  -- ---- a chunk taken

  -- where its word starts
  word_start : (i : ℕ) → i / 64 * 64 / 64 ≡ i / 64
  word_start i = omega arith

  -- the summary stays where the chunk's word has an unused one still
  pub summary_open : (room i : ℕ) → HasRoom used count (i / 64 * 64 / 64) → ((q : ℕ) → bit_at room q ≡ 1 → (q ≡ i / 64 → ⊥) → HasRoom used count q) → ((k : ℕ) → k < count → IsClear used k → bit_at room (k / 64) ≡ 1) → IsSummary used count room
  summary_open room i here elsewhere marked = record {
    found = λ q one.
        elim (cases_eq q (i / 64)) [
          | inl same ↦ subst (HasRoom used count) (word_start i ∙ sym same) here
          | inr other ↦ elsewhere q one other
        ];
    marked = marked;
  }

  pub summary_closed : (room i : ℕ) → i < 2048 → count ≤ 2048 → ((k : ℕ) → i / 64 * 64 ≤ k → k < count → k / 64 ≡ i / 64 * 64 / 64 → IsSet used k) → ((q : ℕ) → bit_at room q ≡ 1 → (q ≡ i / 64 → ⊥) → HasRoom used count q) → ((k : ℕ) → k < count → IsClear used k → bit_at room (k / 64) ≡ 1)
      → IsSummary used count (bit_and room (bit_not w32 (1 * 2 ^ (i / 64) % 2 ^ 32)))
  summary_closed room i within few here elsewhere marked =
      let mask = bit_not w32 (1 * 2 ^ (i / 64) % 2 ^ 32) in
      record {
        found = λ q one.
            elim (cases_eq q (i / 64)) [
              | inl same ↦ absurd (one_is_not_none (bit_at (bit_and room mask) q) one (ap (bit_at (bit_and room mask)) same ∙ bit_at_clear_same w32 room (i / 64) (omega arith)))
              | inr other ↦ elsewhere q (left_of_cleared (bit_at room q) (bit_at mask q) (bit_at-lt room q) (sym (bit_at_and room mask q) ∙ one)) other
            ];
        marked = λ k under unused.
            elim (cases_eq (k / 64) (i / 64)) [
              | inl same ↦ absurd (not_both k (here k (omega (arith, same)) under (same ∙ sym (word_start i))) unused)
              | inr other ↦ bit_at_clear_other w32 room (i / 64) (omega arith) (k / 64) (omega arith) other ∙ marked k under unused
            ];
      }

  -- ---- no chunk used

  -- where no chunk is used every word has one that is unused
  pub all_marked : (words : ℕ) → words ≤ 32 → count ≤ words * 64 → ((q : ℕ) → q < words → q * 64 < count) → ((i : ℕ) → IsClear used i) → IsSummary used count ((2 ^ 32 - 1) / 2 ^ (32 - words))
  all_marked words most enough begun clear =
      let ones : (2 ^ 32 - 1) / 2 ^ (32 - words) ≡ 2 ^ words - 1 = ones_shr 32 (32 - words) (omega arith) ∙ ap (λ n. 2 ^ n - 1) (omega arith) in
      record {
        found = λ q one.
            elim (cases_lt q words) [
              | inl below ↦ record { chunk = q * 64; within = begun q below; word = omega arith; unused = clear (q * 64) }
              | inr above ↦ absurd (one_is_not_none (bit_at (2 ^ words - 1) q) (sym (ap (λ n. bit_at n q) ones) ∙ one) (bit_at_ones_above words q above))
            ];
        marked = λ k within unused. ap (λ n. bit_at n (k / 64)) ones ∙ bit_at_ones words (k / 64) (omega (arith, enough, within));
      }

  -- ---- the summary as it is put together

  -- a summary of the words before word q
  pub record IsBegun (room q : ℕ) : Type 0 where
    pub found : (p : ℕ) → bit_at room p ≡ 1 → HasRoom used count p
    pub marked : (k : ℕ) → k < count → k < q * 64 → IsClear used k → bit_at room (k / 64) ≡ 1

  pub begun : IsBegun 0 0
  begun = record {
    found = λ p one. absurd (one_is_not_none (bit_at 0 p) one (bit_at-zero p));
    marked = λ k within before. absurd (omega arith);
  }

  pub begun_with : (room after q : ℕ) → HasRoom used count (q * 64 / 64) → bit_at after (q * 64 / 64) ≡ 1 → ((p : ℕ) → (p ≡ q * 64 / 64 → ⊥) → bit_at after p ≡ bit_at room p) → IsBegun room q → IsBegun after (q + 1)
  begun_with room after q here same others before = record {
    found = λ p one.
        elim (cases_eq p (q * 64 / 64)) [
          | inl alike ↦ record { chunk = here.chunk; within = here.within; word = here.word ∙ sym alike; unused = here.unused }
          | inr other ↦ before.found p (sym (others p other) ∙ one)
        ];
    marked = λ k within under unused.
        elim (cases_eq (k / 64) (q * 64 / 64)) [
          | inl alike ↦ ap (bit_at after) alike ∙ same
          | inr other ↦ others (k / 64) other ∙ before.marked k within (omega (arith, under, other)) unused
        ];
  }

  pub begun_without : (room q : ℕ) → ((k : ℕ) → q * 64 ≤ k → k < count → k / 64 ≡ q * 64 / 64 → IsSet used k) → IsBegun room q → IsBegun room (q + 1)
  begun_without room q none before = record {
    found = before.found;
    marked = λ k within under unused.
        elim (cases_lt k (q * 64)) [
          | inl earlier ↦ before.marked k within earlier unused
          | inr here ↦ absurd (not_both k (none k here within (omega (arith, here, under))) unused)
        ];
  }

  pub begun_whole : (room q : ℕ) → count ≤ q * 64 → IsBegun room q → IsSummary used count room
  begun_whole room q whole before = record {
    found = before.found;
    marked = λ k within unused. before.marked k within (omega (arith, whole, within)) unused;
  }
