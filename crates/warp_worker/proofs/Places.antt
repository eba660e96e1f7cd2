-- Lists of which one element is replaced, and messages put together.
use Rattle.std.proofs.Common.{◌≡◌, ℕ, zero, suc, ◌+◌, Some, List, [], ◌∷◌, ◌++◌, take, set, slice_get, refl, ap, subst, arith}
use Rattle.warp_base.specs.declared.event.Event.{Event}
use Rattle.warp_base.specs.declared.event.Message.{Message}
use Rattle.warp_base.specs.declared.event.Message.TheVariants as Variants
use Rattle.warp_base.specs.Events.{Each}
use Rattle.warp_base.specs.Messages.{positives, negatives}
use Rattle.warp_worker.specs.Workers.{total}

module _ {X : Type 0} where
  pub Each-at : (Q : X → Type 0) (xs : List X) (i : ℕ) (x : X) → Each Q xs → slice_get xs i ≡ Some x → Q x
  Each-at Q [] i x h there = absurd cc
  Each-at Q (y ∷ xs) zero x h there = let is : y ≡ x = cc in subst Q is h.0
  Each-at Q (y ∷ xs) (suc i) x h there = Each-at Q xs i x h.1 there

  pub Each-set : (Q : X → Type 0) (xs : List X) (i : ℕ) (y : X) → Each Q xs → Q y → Each Q (set xs i y)
  Each-set Q [] i y h is = tt
  Each-set Q (x ∷ xs) zero y h is = (is, h.1)
  Each-set Q (x ∷ xs) (suc i) y h is = (h.0, Each-set Q xs i y h.1 is)

  -- the elements before a place stay, and with the one that is put there they are one more
  pub take-set : (xs : List X) (i : ℕ) (y : X) → take i (set xs i y) ≡ take i xs
  take-set [] i y = refl
  take-set (x ∷ xs) zero y = refl
  take-set (x ∷ xs) (suc i) y = ap (λ l. x ∷ l) (take-set xs i y)

  pub Each-take-set : (Q : X → Type 0) (xs : List X) (i : ℕ) (y : X) → Each Q (take i xs) → Q y → Each Q (take (suc i) (set xs i y))
  Each-take-set Q [] i y h is = tt
  Each-take-set Q (x ∷ xs) zero y h is = (is, tt)
  Each-take-set Q (x ∷ xs) (suc i) y h is = (h.0, Each-take-set Q xs i y h.1 is)

  pub total-set : (count : X → ℕ) (xs : List X) (i : ℕ) (x y : X) → slice_get xs i ≡ Some x → total count (set xs i y) + count x ≡ total count xs + count y
  total-set count [] i x y there = absurd cc
  total-set count (z ∷ xs) zero x y there = let is : z ≡ x = cc in let same = ap count is in omega (arith, same)
  total-set count (z ∷ xs) (suc i) x y there = let rest = total-set count xs i x y there in omega (arith, rest)

module _ {P : Type 0} (words : P → List ℕ) (e : Event P) where
  pub positives-append : (xs ys : List (Message P)) → positives words e (xs ++ ys) ≡ positives words e xs + positives words e ys
  positives-append [] ys = omega arith
  positives-append (Variants.Event x ∷ xs) ys = let rest = positives-append xs ys in omega (arith, rest)
  positives-append (Variants.Anti x ∷ xs) ys = positives-append xs ys

  pub negatives-append : (xs ys : List (Message P)) → negatives words e (xs ++ ys) ≡ negatives words e xs + negatives words e ys
  negatives-append [] ys = omega arith
  negatives-append (Variants.Event x ∷ xs) ys = negatives-append xs ys
  negatives-append (Variants.Anti x ∷ xs) ys = let rest = negatives-append xs ys in omega (arith, rest)
