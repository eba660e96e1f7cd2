-- A log that has given areas.
use Rattle.std.proofs.Common.{◌≡◌, ℕ, zero, suc, ◌<◌, ◌≤◌, Bool, true, false, cond, ◌||◌, ◌==◌, Option, Some, None, List, refl, sym, ap, ◌∙◌, arith, inl, inr}
use Rattle.std.specs.Ordering.{nat_cmp}
use Rattle.std.specs.Cmp.{nat_cmp_total, unsigned_tied}
use Rattle.std.specs.FinMap as map
use Rattle.std.specs.FinSet as set
use Rattle.std.proofs.lemmas.Bool.{cases_eq, cases_lt, cond-true, cond-false, eq-eqb, ne_eqb}
use Rattle.dym_base.specs.Heaps.{Live, Touched}
use Rattle.dym_base.proofs.Maps.{get_insert}

-- ---- a map of a function

abbrev with_value : Live → ℕ → Option (List ℕ) → Live
with_value m k None = m
with_value m k (Some bytes) = map.insert m k bytes

-- the values of a function at the numbers below n
pub values_below : ℕ → (ℕ → Option (List ℕ)) → Live
values_below zero f = map.empty
values_below (suc n) f = with_value (values_below n f) n (f n)

get_with : (m : Live) (k q : ℕ) (x : Option (List ℕ)) → map.get m k ≡ None → map.get (with_value m k x) q ≡ cond (q == k) x (map.get m q)
get_with m k q None gone =
    elim (cases_eq q k) [
      | inl same ↦ ap (map.get m) same ∙ gone ∙ sym (cond-true (q == k) _ _ (eq-eqb q k same))
      | inr other ↦ sym (cond-false (q == k) _ _ (ne_eqb q k other))
    ]
get_with m k q (Some bytes) gone = get_insert m k bytes q

none_past : (n : ℕ) (f : ℕ → Option (List ℕ)) (q : ℕ) → n ≤ q → map.get (values_below n f) q ≡ None
unfolding values_below
none_past zero f q past = map.get-empty nat_cmp q
none_past (suc n) f q past =
    get_with (values_below n f) n q (f n) (none_past n f n (omega arith))
    ∙ cond-false (q == n) _ _ (ne_eqb q n (λ same. omega arith))
    ∙ none_past n f q (omega arith)

get_below : (n : ℕ) (f : ℕ → Option (List ℕ)) (q : ℕ) → q < n → map.get (values_below n f) q ≡ f q
unfolding values_below
get_below zero f q below = absurd (omega arith)
get_below (suc n) f q below =
    get_with (values_below n f) n q (f n) (none_past n f n (omega arith))
    ∙ elim (cases_eq q n) [
      | inl same ↦ cond-true (q == n) _ _ (eq-eqb q n same) ∙ ap f (sym same)
      | inr other ↦ cond-false (q == n) _ _ (ne_eqb q n other) ∙ get_below n f q (omega arith)
    ]

-- a function that is None from n on is that of a map
pub values_get : (n : ℕ) (f : ℕ → Option (List ℕ)) → ((q : ℕ) → n ≤ q → f q ≡ None) → (q : ℕ) → map.get (values_below n f) q ≡ f q
values_get n f past q =
    elim (cases_lt q n) [
      | inl below ↦ get_below n f q below
      | inr beyond ↦ none_past n f q beyond ∙ sym (past q beyond)
    ]

-- ---- a set of a function

abbrev with_mark : Touched → ℕ → Bool → Touched
with_mark s k false = s
with_mark s k true = set.insert s k

pub marks_below : ℕ → (ℕ → Bool) → Touched
marks_below zero f = set.empty
marks_below (suc n) f = with_mark (marks_below n f) n (f n)

has_with : (s : Touched) (k q : ℕ) (x : Bool) → set.contains s k ≡ false → set.contains (with_mark s k x) q ≡ cond (q == k) x (set.contains s q)
has_with s k q false gone =
    elim (cases_eq q k) [
      | inl same ↦ ap (set.contains s) same ∙ gone ∙ sym (cond-true (q == k) _ _ (eq-eqb q k same))
      | inr other ↦ sym (cond-false (q == k) _ _ (ne_eqb q k other))
    ]
has_with s k q true gone =
    set.contains-insert nat_cmp_total s k q
    ∙ ap (λ b. b || set.contains s q) (unsigned_tied q k)
    ∙ or_cond (q == k) (set.contains s q)
  where
    or_cond : (b x : Bool) → (b || x) ≡ cond b true x
    or_cond true x = refl
    or_cond false x = refl

unmarked_past : (n : ℕ) (f : ℕ → Bool) (q : ℕ) → n ≤ q → set.contains (marks_below n f) q ≡ false
unfolding marks_below
unmarked_past zero f q past = set.contains-empty nat_cmp q
unmarked_past (suc n) f q past =
    has_with (marks_below n f) n q (f n) (unmarked_past n f n (omega arith))
    ∙ cond-false (q == n) _ _ (ne_eqb q n (λ same. omega arith))
    ∙ unmarked_past n f q (omega arith)

marked_below : (n : ℕ) (f : ℕ → Bool) (q : ℕ) → q < n → set.contains (marks_below n f) q ≡ f q
unfolding marks_below
marked_below zero f q below = absurd (omega arith)
marked_below (suc n) f q below =
    has_with (marks_below n f) n q (f n) (unmarked_past n f n (omega arith))
    ∙ elim (cases_eq q n) [
      | inl same ↦ cond-true (q == n) _ _ (eq-eqb q n same) ∙ ap f (sym same)
      | inr other ↦ cond-false (q == n) _ _ (ne_eqb q n other) ∙ marked_below n f q (omega arith)
    ]

pub marks_has : (n : ℕ) (f : ℕ → Bool) → ((q : ℕ) → n ≤ q → f q ≡ false) → (q : ℕ) → set.contains (marks_below n f) q ≡ f q
marks_has n f past q =
    elim (cases_lt q n) [
      | inl below ↦ marked_below n f q below
      | inr beyond ↦ unmarked_past n f q beyond ∙ sym (past q beyond)
    ]
