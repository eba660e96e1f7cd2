-- The numbers that a job changes, one after the other.
use Rattle.std.proofs.Common.{◌≡◌, ℕ, zero, suc, ◌+◌, ◌*◌, ◌%◌, ◌^◌, ◌<◌, ◌≤◌, Bool, cond, List, [], ◌∷◌, length, get_or, refl, sym, ap, ◌∙◌, arith}
use Rattle.std.proofs.Math.ListN.{set}
use Rattle.std.proofs.lemmas.Bool.{le-ltb, lt-ltb}
use Rattle.warp_models.specs.Phold.{changed}

module _ (job : ℕ) where
  -- a number as a job leaves it that stands at this place
  abbrev by : ℕ → ℕ → ℕ
  by k x = (x * 5 + job + k) % 2 ^ 64

  kept : (count k x : ℕ) (xs : List ℕ) → count ≤ k → changed job count k (x ∷ xs) ≡ x ∷ changed job count (k + 1) xs
  kept count k x xs h = ap (λ (t : Bool). cond t (by k x) x ∷ changed job count (k + 1) xs) (le-ltb k count h)

  turned : (count k x : ℕ) (xs : List ℕ) → k < count → changed job count k (x ∷ xs) ≡ by k x ∷ changed job count (k + 1) xs
  turned count k x xs h = ap (λ (t : Bool). cond t (by k x) x ∷ changed job count (k + 1) xs) (lt-ltb k count h)

  -- up to a place that was passed, none is changed
  pub changed_none : (count k : ℕ) (xs : List ℕ) → count ≤ k → changed job count k xs ≡ xs
  changed_none count k [] h = refl
  changed_none count k (x ∷ xs) h = kept count k x xs h ∙ ap (λ ys. x ∷ ys) (changed_none count (k + 1) xs (omega arith))

  -- beyond the list's end it is all one
  pub changed_all : (one other k : ℕ) (xs : List ℕ) → k + length xs ≤ one → k + length xs ≤ other → changed job one k xs ≡ changed job other k xs
  changed_all one other k [] h g = refl
  changed_all one other k (x ∷ xs) h g =
      turned one k x xs (omega arith) ∙ ap (λ ys. by k x ∷ ys) (changed_all one other (k + 1) xs (omega arith) (omega arith)) ∙ sym (turned other k x xs (omega arith))

  -- the number at the loop's place is still what it was, and the write there changes one more
  pub changed_more : (k at count : ℕ) (xs : List ℕ) → count ≡ at + k → k < length xs
      → set (changed job count at xs) k (by count (get_or (changed job count at xs) k 0)) ≡ changed job (count + 1) at xs
  changed_more k at count [] is h = absurd (omega arith)
  changed_more zero at count (x ∷ xs) is h =
      let before : changed job count at (x ∷ xs) ≡ x ∷ xs = changed_none count at (x ∷ xs) (omega arith) in
      let same : at ≡ count = omega arith in
      ap (λ ys. set ys 0 (by count (get_or ys 0 0))) before
      ∙ ap (λ t. by t x ∷ xs) (sym same)
      ∙ ap (λ ys. by at x ∷ ys) (sym (changed_none (count + 1) (at + 1) xs (omega arith)))
      ∙ sym (turned (count + 1) at x xs (omega arith))
  changed_more (suc k) at count (x ∷ xs) is h =
      let before = turned count at x xs (omega arith) in
      ap (λ ys. set ys (suc k) (by count (get_or ys (suc k) 0))) before
      ∙ ap (λ ys. by at x ∷ ys) (changed_more k (at + 1) count xs (omega arith) (omega arith))
      ∙ sym (turned (count + 1) at x xs (omega arith))

  pub length-changed : (count k : ℕ) (xs : List ℕ) → length (changed job count k xs) ≡ length xs
  length-changed count k [] = refl
  length-changed count k (x ∷ xs) = ap suc (length-changed count (k + 1) xs)
