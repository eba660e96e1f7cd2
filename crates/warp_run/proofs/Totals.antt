-- Sums over lists, and facts of each element, at places and over lists put together.
use Rattle.std.proofs.Common.{◌≡◌, ℕ, zero, suc, ◌+◌, ◌≤◌, List, [], ◌∷◌, ◌++◌, length, set, slice_get, Some, None, refl, ap, subst, arith}
use Rattle.warp_base.specs.Events.{Each}
use Rattle.warp_worker.specs.Workers.{total}

module _ {X : Type 0} (count : X → ℕ) where
  pub total-append : (xs ys : List X) → total count (xs ++ ys) ≡ total count xs + total count ys
  total-append [] ys = omega arith
  total-append (x ∷ xs) ys = let rest = total-append xs ys in omega (arith, rest)

  -- with another element at a place
  pub total-set : (xs : List X) (i : ℕ) (x y : X) → slice_get xs i ≡ Some x → total count (set xs i y) + count x ≡ total count xs + count y
  total-set [] i x y there = cc
  total-set (z ∷ xs) zero x y there = let is : z ≡ x = cc in let same = ap count is in omega (arith, same)
  total-set (z ∷ xs) (suc i) x y there = let rest = total-set xs i x y there in omega (arith, rest)

  pub total-zero : (xs : List X) → Each (λ x. count x ≡ 0) xs → total count xs ≡ 0
  total-zero [] h = refl
  total-zero (x ∷ xs) h = let rest = total-zero xs h.1 in let first = h.0 in omega (arith, rest, first)

module _ {X : Type 0} (Q : X → Type 0) where
  pub Each-set : (xs : List X) (i : ℕ) (y : X) → Each Q xs → Q y → Each Q (set xs i y)
  Each-set [] i y h is = tt
  Each-set (x ∷ xs) zero y h is = (is, h.1)
  Each-set (x ∷ xs) (suc i) y h is = (h.0, Each-set xs i y h.1 is)

  pub Each-at : (xs : List X) (i : ℕ) (x : X) → Each Q xs → slice_get xs i ≡ Some x → Q x
  Each-at [] i x h there = cc
  Each-at (z ∷ xs) zero x h there = let is : z ≡ x = cc in subst Q is h.0
  Each-at (z ∷ xs) (suc i) x h there = Each-at xs i x h.1 there

  pub Each-places : (xs : List X) → ((i : ℕ) (x : X) → slice_get xs i ≡ Some x → Q x) → Each Q xs
  Each-places [] h = tt
  Each-places (x ∷ xs) h = (h zero x refl, Each-places xs (λ i y there. h (suc i) y there))

pub slice_get_none : {X : Type 0} (xs : List X) (k : ℕ) → slice_get xs k ≡ None → length xs ≤ k
slice_get_none [] k none = omega arith
slice_get_none (x ∷ xs) zero none = cc
slice_get_none (x ∷ xs) (suc k) none = let rest = slice_get_none xs k none in omega (arith, rest)
