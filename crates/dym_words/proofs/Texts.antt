-- Words on the texts of words, where `h` reads the text of a word.
use Rattle.std.proofs.Common.{arith, take, take_all, ◌≡◌, ℕ, ◌+◌, Bool, not, ◌||◌, cond, List, [], ◌∷◌, map, drop, Option, Some, None, refl, ap}
use Rattle.std.specs.Prelude.{position, take_while, nat_le, count_by}
use Rattle.std.specs.List.{prefix_len, list_all, list_any}
use Rattle.std.specs.Option.{option_map}
use Rattle.std.proofs.lemmas.List.{take-map, drop-map, length-map}
use Rattle.std.proofs.lemmas.List.Folds.{list_all-map}
use Rattle.std.proofs.lemmas.List.Sums.{prefix_len-le-length}
use Rattle.dym_words.specs.Options.{is_option, is_text, values_of, are_known, are_single}

prefix_len-map : {X Y : Type 0} (h : Y → X) (p : X → Bool) (ys : List Y) → prefix_len p (map h ys) ≡ prefix_len (λ y. p (h y)) ys
prefix_len-map h p [] = refl
prefix_len-map h p (y ∷ ys) = ap (λ n. cond (p (h y)) (1 + n) 0) (prefix_len-map h p ys)

position-map : {X Y : Type 0} (h : Y → X) (p : X → Bool) (ys : List Y) → position p (map h ys) ≡ position (λ y. p (h y)) ys
position-map h p ys = rw (prefix_len-map h (λ x. not (p x)) ys, length-map) refl

take_while-map : {X Y : Type 0} (h : Y → X) (p : X → Bool) (ys : List Y) → take_while p (map h ys) ≡ map h (take_while (λ y. p (h y)) ys)
take_while-map h p ys = rw (prefix_len-map h p ys) (take-map h (prefix_len (λ y. p (h y)) ys) ys)

-- the values that stand after place i
after_place : {Y : Type 0} (h : Y → List ℕ) (ys : List Y) (i : ℕ)
    → take_while (λ v. not (is_option v)) (drop (i + 1) (map h ys)) ≡ map h (take_while (λ y. not (is_option (h y))) (drop (i + 1) ys))
after_place h ys i = rw (drop-map h (i + 1) ys) (take_while-map h (λ v. not (is_option v)) (drop (i + 1) ys))

at_place : {Y : Type 0} (h : Y → List ℕ) (ys : List Y) (o : Option ℕ)
    → option_map (λ i. take_while (λ v. not (is_option v)) (drop (i + 1) (map h ys))) o
    ≡ option_map (λ i. map h (take_while (λ y. not (is_option (h y))) (drop (i + 1) ys))) o
at_place h ys None = refl
at_place h ys (Some i) = ap Some (after_place h ys i)

-- the values of an option, by the words themselves
pub values_of-map : {Y : Type 0} (h : Y → List ℕ) (name : List ℕ) (ys : List Y)
    → values_of name (map h ys)
    ≡ option_map (λ i. map h (take_while (λ y. not (is_option (h y))) (drop (i + 1) ys))) (position (λ y. is_text name (h y)) ys)
values_of-map h name ys = rw (position-map h (is_text name) ys) (at_place h ys (position (λ y. is_text name (h y)) ys))

list_any-map : {X Y : Type 0} (h : Y → X) (p : X → Bool) (ys : List Y) → list_any p (map h ys) ≡ list_any (λ y. p (h y)) ys
list_any-map h p [] = refl
list_any-map h p (y ∷ ys) = ap (λ b. p (h y) || b) (list_any-map h p ys)

-- the tests of a list of options, by the names and the words themselves
pub are_known-map : {N Y : Type 0} (g : N → List ℕ) (h : Y → List ℕ) (ns : List N) (ys : List Y)
    → are_known (map g ns) (map h ys) ≡ list_all (λ y. not (is_option (h y)) || list_any (λ n. is_text (g n) (h y)) ns) ys
are_known-map g h ns ys = simp (list_all-map, list_any-map)

pub are_single-map : {N Y : Type 0} (g : N → List ℕ) (h : Y → List ℕ) (ns : List N) (ys : List Y)
    → are_single (map g ns) (map h ys) ≡ list_all (λ n. nat_le (count_by (is_text (g n)) (map h ys)) 1) ns
are_single-map g h ns ys = list_all-map (λ name. nat_le (count_by (is_text name) (map h ys)) 1) g ns

-- where none is an option, all words stand before the first
pub take_while_none : {Y : Type 0} (p : Y → Bool) (ys : List Y) → position p ys ≡ None → ys ≡ take_while (λ y. not (p y)) ys
take_while_none p ys none = grind (arith, prefix_len-le-length (λ y. not (p y)) ys, take_all)

pub take_while_some : {Y : Type 0} (p : Y → Bool) (ys : List Y) (n : ℕ) → position p ys ≡ Some n → take n ys ≡ take_while (λ y. not (p y)) ys
take_while_some p ys n some = grind (arith, prefix_len-le-length (λ y. not (p y)) ys)
