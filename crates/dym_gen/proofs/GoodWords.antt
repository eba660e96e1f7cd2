-- The words of a made script: decimal numbers, chunks and names.
use Rattle.std.proofs.Common.{◌≡◌, ℕ, zero, suc, ◌*◌, ◌^◌, ◌<◌, ◌≤◌, ◌==◌, true, false, not, List, [], ◌∷◌, ◌++◌, length, codes, Some, nat_le, refl, sym, ap, ◌∙◌, arith, rules, append-nil}
use Rattle.std.specs.Prelude.{decimal}
use Rattle.std.specs.Fmt.{digits}
use Rattle.std.specs.List.{list_all}
use Rattle.std.specs.Char.{is_ascii_digit}
use Rattle.std.specs.Str.{bytes_eq}
use Rattle.std.specs.Str.Parse.{digits_value}
use Rattle.std.specs.Cmp.Lexicographic.{bytes_decides}
use Rattle.std.proofs.lemmas.Bool.Decides.{nat_tests}
use Rattle.std.proofs.lemmas.List.Folds.{list_all-append}
use Rattle.std.proofs.lemmas.Str.Parse.{IsNumeralModel, numerals_by_value}
use Rattle.std.proofs.lemmas.Fmt.{digits_decimal, digits_value-decimal, decimal_nonempty, decimal_injective, length-decimal-le}
use Rattle.dym_base.specs.Names.{is_name, is_name_byte}
use Rattle.dym_base.specs.declared.limits.TheConstants.{MOST_NAME_BYTES}
use Rattle.dym_base.specs.declared.handle.Handle.{Handle}
use Rattle.dym_script.specs.Lines.{is_word}
use Rattle.dym_script.specs.Words.{is_digits, number_to, exponent_of, handle_of}
use Rattle.dym_script.proofs.WordCuts.{both_true}
use Rattle.dym_script.specs.Quick.{is_bare, is_bare_word, Counts, Sizes, Begins}
use Rattle.dym_script.proofs.Spelled.{all_weaker, digits_bare, number_read, begins_handle}

digit_named : (c : ℕ) → is_ascii_digit c ≡ true → is_name_byte c ≡ true
digit_named c digit = grind (arith, nat_tests)

-- Numbers

numerals : IsNumeralModel (λ ds. list_all is_ascii_digit ds ≡ true) (digits_value 10)
numerals = numerals_by_value _ (search rules)

pub decimal_digits : (n : ℕ) → n < 1000000 → list_all is_ascii_digit (decimal n) ≡ true
decimal_digits n small = digits_decimal numerals n (omega arith)

pub decimal_good : (n : ℕ) → n < 1000000 → (is_digits (decimal n) ≡ true) × (digits_value 10 (decimal n) ≡ n)
decimal_good n small =
    let some = decimal_nonempty n (omega arith) in
    let short = length-decimal-le 6 n (omega arith) (omega arith) (omega arith) in
    let first : nat_le 1 (length (decimal n)) ≡ true = grind (arith, nat_tests) in
    let last : nat_le (length (decimal n)) 20 ≡ true = grind (arith, nat_tests) in
    (rw (first, last, decimal_digits n small) refl, digits_value-decimal numerals n (omega arith))

pub decimal_bare : (n : ℕ) → n < 1000000 → is_bare_word (decimal n) ≡ true
decimal_bare n small = digits_bare (decimal n) (decimal_good n small).0

-- a number is read where it isn't too great
pub decimal_read : (most n : ℕ) → n < 1000000 → n ≤ most → number_to most (decimal n) ≡ Some n
decimal_read most n small within = let good = decimal_good n small in number_read most n (decimal n) good.0 good.1 within

-- Chunks

-- a chunk size that may stand before a colon
pub record IsSize (size : List ℕ) : Type 0 where
  pub exp : ℕ
  pub value : exponent_of size ≡ Some exp
  pub bare : list_all is_bare size ≡ true
  pub whole : list_all (λ b. not (b == 58)) size ≡ true

pub size_read : (draw : ℕ) → draw < 4 → IsSize (decimal (32 * 2 ^ draw))
unfolding digits exponent_of
size_read zero small = record { exp = 5; value = refl; bare = refl; whole = refl }
size_read (suc zero) small = record { exp = 6; value = refl; bare = refl; whole = refl }
size_read (suc (suc zero)) small = record { exp = 7; value = refl; bare = refl; whole = refl }
size_read (suc (suc (suc zero))) small = record { exp = 8; value = refl; bare = refl; whole = refl }
size_read (suc (suc (suc (suc n)))) small = absurd (omega arith)

abbrev pub chunk : List ℕ → ℕ → List ℕ
chunk size index = size ++ 58 ∷ decimal index

colon_word : (xs ys : List ℕ) → list_all is_bare xs ≡ true → list_all is_bare ys ≡ true → is_bare_word (xs ++ 58 ∷ ys) ≡ true
colon_word [] ys one two = two
colon_word (x ∷ xs) ys one two = list_all-append is_bare (x ∷ xs) (58 ∷ ys) ∙ rw (one, two) refl

pub chunk_bare : (size : List ℕ) (index : ℕ) → IsSize size → index < 1000000 → is_bare_word (chunk size index) ≡ true
chunk_bare size index is small = colon_word size (decimal index) is.bare
    (both_true (is_word (decimal index)) (list_all is_bare (decimal index)) (decimal_bare index small)).1

same_word : (word : List ℕ) (h : Handle) → Begins handle_of (32 ∷ word) h [] → handle_of word ≡ Some h
same_word word h begins =
    let same : 32 ∷ word ≡ 32 ∷ begins.word = begins.is ∙ append-nil (32 ∷ begins.word) in
    let is : word ≡ begins.word = cc in
    rw is begins.reads

pub chunk_read : (size : List ℕ) (index : ℕ) (is : IsSize size) → index < 1000000 → handle_of (chunk size index) ≡ Some (record { exp = is.exp; index = index })
chunk_read size index is small =
    let good = decimal_good index small in
    let sizes : Sizes (chunk size index) is.exp (decimal index) = record {
      size = size;
      is = refl;
      bare = is.bare;
      whole = is.whole;
      value = is.value;
    } in
    let counts : Counts (decimal index) index [] = record {
      digits = decimal index;
      is = sym (append-nil (decimal index));
      good = good.0;
      value = good.1;
    } in
    same_word (chunk size index) (record { exp = is.exp; index = index })
    (begins_handle (32 ∷ chunk size index) (chunk size index) (decimal index) [] is.exp index refl sizes counts (omega arith))

-- Names

-- the name of an object
abbrev pub name_of : ℕ → List ℕ
name_of object = 111 ∷ decimal object

pub no_object : (object : ℕ) → object < 10000 → bytes_eq (name_of object) (codes "object") ≡ false
no_object object small = elim (bytes_eq (name_of object) (codes "object")) as (λ b. bytes_eq (name_of object) (codes "object") ≡ b → b ≡ false) [
  | true ↦ λ same.
      let is : name_of object ≡ codes "object" = (bytes_decides (name_of object) (codes "object")).0 same in
      let rest : decimal object ≡ codes "bject" = cc in
      let clash : false ≡ true = sym (ap (list_all is_ascii_digit) rest) ∙ decimal_digits object (omega arith) in
      absurd (cc)
  | false ↦ λ _. refl
] refl

pub name_good : (object : ℕ) → object < 10000 → is_name (name_of object) ≡ true
name_good object small =
    let short = length-decimal-le 4 object (omega arith) (omega arith) (omega arith) in
    let first : nat_le 1 (length (name_of object)) ≡ true = grind (arith, nat_tests) in
    let last : nat_le (length (name_of object)) MOST_NAME_BYTES ≡ true = grind (arith, nat_tests) in
    rw (first, last, all_weaker is_ascii_digit is_name_byte digit_named (decimal object) (decimal_digits object (omega arith)), no_object object small) refl

pub name_bare : (object : ℕ) → object < 10000 → is_bare_word (name_of object) ≡ true
name_bare object small = (both_true (is_word (decimal object)) (list_all is_bare (decimal object)) (decimal_bare object (omega arith))).1

-- no two objects have one name
pub other_name : (one other : ℕ) → one < 10000 → other < 10000 → (one ≡ other → ⊥) → bytes_eq (name_of one) (name_of other) ≡ false
other_name one other small little apart = elim (bytes_eq (name_of one) (name_of other)) as (λ b. bytes_eq (name_of one) (name_of other) ≡ b → b ≡ false) [
  | true ↦ λ same.
      let is : name_of one ≡ name_of other = (bytes_decides (name_of one) (name_of other)).0 same in
      let rest : decimal one ≡ decimal other = cc in
      absurd (apart (decimal_injective one other (omega arith) (omega arith) rest))
  | false ↦ λ _. refl
] refl

pub own_name : (object : ℕ) → bytes_eq (name_of object) (name_of object) ≡ true
own_name object = (bytes_decides (name_of object) (name_of object)).1 refl
