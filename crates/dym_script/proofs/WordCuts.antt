-- Where an input is cut into lines, and a line into words.
use Rattle.std.proofs.Common.{◌≡◌, ℕ, zero, suc, ◌+◌, ◌-◌, ◌<◌, Bool, true, false, cond, not, eqb, ◌&&◌, List, [], ◌∷◌, length, take, drop, get_or, get_or-drop, refl, sym, ap, ◌∙◌, arith, one-add, length-drop, take_all, add-zero}
use Rattle.std.proofs.lemmas.List.Sums.{prefix_len_stops}
use Rattle.std.proofs.lemmas.Bool.{false_from_ne_true}
use Rattle.std.specs.List.{prefix_len, slice_split, onto_first, filter}
use Rattle.dym_base.specs.Lines.{lines_of}
use Rattle.dym_script.specs.Lines.{words_of, is_space, is_word}

pub both_true : (a b : Bool) → (a && b) ≡ true → (a ≡ true) × (b ≡ true)
both_true true b both = (refl, both)
both_true false b both = absurd (cc)

-- no line end stands before place n, and one stands there
pub lines_of_cut : (xs : List ℕ) (n : ℕ) → n < length xs → ((k : ℕ) → k < n → eqb (get_or xs k 0) 10 ≡ false) → eqb (get_or xs n 0) 10 ≡ true
    → lines_of xs ≡ take n xs ∷ lines_of (drop (suc n) xs)
lines_of_cut [] n inside before here = absurd (omega arith)
lines_of_cut (x ∷ xs) zero inside before here = rw here refl
lines_of_cut (x ∷ xs) (suc n) inside before here =
    let first : eqb x 10 ≡ false = before 0 (omega arith) in
    let rest = lines_of_cut xs n (omega arith) (λ k h. before (suc k) (omega arith)) here in
    rw (first, rest) refl

-- no line end stands in the text
pub lines_of_last : (xs : List ℕ) → 0 < length xs → ((k : ℕ) → k < length xs → eqb (get_or xs k 0) 10 ≡ false) → lines_of xs ≡ xs ∷ []
lines_of_last [] some none = absurd (omega arith)
lines_of_last (x ∷ []) some none =
    let first : eqb x 10 ≡ false = none 0 (omega arith) in
    rw first refl
lines_of_last (x ∷ y ∷ ys) some none =
    let first : eqb x 10 ≡ false = none 0 (omega arith) in
    let rest = lines_of_last (y ∷ ys) (omega arith) (λ k h. none (suc k) (omega arith)) in
    rw (first, rest) refl

pub words_of_nothing : words_of [] ≡ []
unfolding words_of
words_of_nothing = refl

-- the spaces at the front are no part of a word
pub words_of_spaces : (xs : List ℕ) → words_of (drop (prefix_len is_space xs) xs) ≡ words_of xs
unfolding words_of
words_of_spaces [] = refl
words_of_spaces (x ∷ xs) = elim (is_space x) as (λ b. is_space x ≡ b → words_of (drop (cond b (1 + prefix_len is_space xs) 0) (x ∷ xs)) ≡ words_of (x ∷ xs)) [
  | true ↦ λ space. rw (one-add (prefix_len is_space xs), space) (words_of_spaces xs)
  | false ↦ λ other. refl
] refl

-- before the first space stands the first piece, and after it the words that are left
pub pieces_of_cut : (xs : List ℕ) → (rest : List (List ℕ)) × (slice_split is_space xs ≡ take (prefix_len (λ b. not (is_space b)) xs)
    xs ∷ rest) × (filter is_word rest ≡ words_of (drop (prefix_len (λ b. not (is_space b)) xs) xs))
unfolding words_of
pieces_of_cut [] = ([], refl, refl)
pieces_of_cut (x ∷ xs) = elim (is_space x) as (λ b. is_space x ≡ b
    → (rest : List (List ℕ)) × (cond b ([] ∷ slice_split is_space xs) (onto_first x (slice_split is_space xs)) ≡ take
    (cond (not b) (1 + prefix_len (λ c. not (is_space c)) xs) 0) (x ∷ xs) ∷ rest) × (filter is_word rest ≡ words_of
    (drop (cond (not b) (1 + prefix_len (λ c. not (is_space c)) xs) 0) (x ∷ xs)))) [
      | true ↦ λ space. (slice_split is_space xs, refl, rw space refl)
      | false ↦ λ other. let (rest, cut, words) =
          pieces_of_cut xs in (
            rest,
            rw (one-add (prefix_len (λ c. not (is_space c)) xs), cut) refl,
            rw (one-add (prefix_len (λ c. not (is_space c)) xs))
                words,
          )
    ] refl

-- the first word of a text that doesn't begin with a space
pub words_of_cut : (xs : List ℕ) → 0 < length xs → is_space (get_or xs 0 0) ≡ false
    → words_of xs ≡ take (prefix_len (λ b. not (is_space b)) xs) xs ∷ words_of (drop (prefix_len (λ b. not (is_space b)) xs) xs)
unfolding words_of
words_of_cut [] some other = absurd (omega arith)
words_of_cut (x ∷ xs) some other =
    let (rest, cut, words) = pieces_of_cut (x ∷ xs) in
    ap (filter is_word) cut ∙ rw (other, one-add (prefix_len (λ b. not (is_space b)) xs))
    (ap (λ ws. (x ∷ take (prefix_len (λ b. not (is_space b)) xs) xs) ∷ ws) (words ∙ rw (other, one-add (prefix_len (λ b. not (is_space b)) xs)) refl))

-- the first word of a text
pub first_word : (xs ys : List ℕ) (n m : ℕ) → n ≡ prefix_len is_space xs → ys ≡ drop n xs → 0 < length ys → m ≡ prefix_len (λ b. not (is_space b)) ys
    → words_of xs ≡ take m ys ∷ words_of (drop m ys)
first_word xs ys n m count rest some len =
    let same : words_of xs ≡ words_of ys = rw (rest, count) (sym (words_of_spaces xs)) in
    let long : length ys ≡ length xs - n = ap length rest ∙ length-drop n xs in
    let stops : is_space (get_or (drop (prefix_len is_space xs) xs) 0 0) ≡ false =
    rw (get_or-drop (prefix_len is_space xs) xs 0 0, add-zero) (prefix_len_stops is_space xs 0 (omega arith)) in
    rw len (same ∙ words_of_cut ys some (rw (rest, count) stops))

-- a text of spaces alone has no word
pub no_word : (xs ys : List ℕ) (n : ℕ) → n ≡ prefix_len is_space xs → ys ≡ drop n xs → length ys ≡ 0 → words_of xs ≡ []
no_word xs [] n count rest none = sym (words_of_spaces xs) ∙ rw (← count, ← rest) (words_of_nothing)
no_word xs (y ∷ ys) n count rest none = absurd (omega arith)

-- a test that doesn't pass
pub not_true : {b : Bool} → ¬ (b ≡ true) → b ≡ false
not_true {b} fails = false_from_ne_true b fails

-- all that stands from place n on
pub take_rest : (n : ℕ) (xs : List ℕ) → take (length xs - n) (drop n xs) ≡ drop n xs
take_rest n xs = rw (← length-drop n xs) (take_all (length (drop n xs)) (drop n xs) (omega arith))
