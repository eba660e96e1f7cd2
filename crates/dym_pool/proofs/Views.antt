-- Sums over all views of a deque, and what a change of one view does to them.
use Rattle.std.proofs.Common.{◌≡◌, ◌≢◌, ℕ, zero, suc, ◌+◌, ◌<◌, ◌≤◌, ◌⊎◌, inl, inr, List, [], ◌∷◌, ◌++◌, length, set, sum_by, refl, sym, ap, subst, arith, if◌then◌else◌, Bool}
use mathlib.Core.Option.{some, some-injective, some-ne-none}
use lib.ListN.{get_elem?}
use Rattle.std.proofs.lemmas.Bool.Decides.{eqb_tells}
use Rattle.std.proofs.lemmas.List.Sums.{sum_by-cons, sum_by-append}
use Rattle.std.proofs.Math.Dec.{eqb}
use Rattle.crossbeam_deque.proofs.Lists.{at_set, at_snoc}
use Rattle.dym_pool.specs.Shares.{Has}

module _ {V : Type 0} where
  abbrev pub Each : (V → Type 0) → List V → Type 0
  Each F views = (pass : ℕ) (v : V) → get_elem? views pass ≡ some v → F v

  -- a sum after one view was set
  pub sum-set : (f : V → ℕ) (views : List V) (pass : ℕ) (v w : V) → get_elem? views pass ≡ some v → sum_by f (set views pass w) + f v ≡ sum_by f views + f w
  sum-set f [] pass v w at = absurd (some-ne-none v (sym at))
  sum-set f (x ∷ xs) zero v w at = let same : f x ≡ f v = ap f (some-injective x v at) in omega (arith, sum_by-cons f x xs, sum_by-cons f w xs)
  sum-set f (x ∷ xs) (suc pass) v w at = let r = sum-set f xs pass v w at in omega (arith, sum_by-cons f x xs, sum_by-cons f x (set xs pass w))

  -- a sum with one view more
  pub sum-push : (f : V → ℕ) (views : List V) (w : V) → sum_by f (views ++ w ∷ []) ≡ sum_by f views + f w
  sum-push f views w = omega (arith, sum_by-append f views (w ∷ []), sum_by-cons f w [])

  -- one view's part is in the sum
  pub sum-part : (f : V → ℕ) (views : List V) (pass : ℕ) (v : V) → get_elem? views pass ≡ some v → f v ≤ sum_by f views
  sum-part f [] pass v at = absurd (some-ne-none v (sym at))
  sum-part f (x ∷ xs) zero v at = let p : f x ≡ f v = ap f (some-injective x v at) in omega (arith, sum_by-cons f x xs)
  sum-part f (x ∷ xs) (suc pass) v at = let r = sum-part f xs pass v at in omega (arith, sum_by-cons f x xs)

  sum-nothing : (f g : V → ℕ) (views : List V) → Each (λ v. g v ≡ 0 → f v ≡ 0) views → sum_by g views ≡ 0 → sum_by f views ≡ 0
  sum-nothing f g [] none e = refl
  sum-nothing f g (x ∷ xs) none e =
      let a = none 0 x refl (omega (arith, sum_by-cons g x xs)) in
      let r = sum-nothing f g xs (λ i. none (suc i)) (omega (arith, sum_by-cons g x xs)) in
      omega (arith, sum_by-cons f x xs)

  -- where one view has all of g, and f is 0 where g is, that view has all of f
  pub sum-alone : (f g : V → ℕ) (views : List V) (pass : ℕ) (v : V) → Each (λ v. g v ≡ 0 → f v ≡ 0) views → get_elem? views pass ≡ some v → sum_by g views ≡ g v → sum_by f views ≡ f v
  sum-alone f g [] pass v none at all = absurd (some-ne-none v (sym at))
  sum-alone f g (x ∷ xs) zero v none at all =
      let p : f x ≡ f v = ap f (some-injective x v at) in
      let q : g x ≡ g v = ap g (some-injective x v at) in
      let r = sum-nothing f g xs (λ i. none (suc i)) (omega (arith, sum_by-cons g x xs)) in
      omega (arith, sum_by-cons f x xs)
  sum-alone f g (x ∷ xs) (suc pass) v none at all =
      let part = sum-part g xs pass v at in
      let a = none 0 x refl (omega (arith, sum_by-cons g x xs)) in
      let r = sum-alone f g xs pass v (λ i. none (suc i)) at (omega (arith, sum_by-cons g x xs)) in
      omega (arith, sum_by-cons f x xs, sum_by-cons g x xs)

  -- a fact of each view after one was set
  pub each-set : (F : V → Type 0) (views : List V) (pass : ℕ) (w : V) → F w → ((other : ℕ) (u : V) → other ≢ pass → get_elem? views other ≡ some u → F u) → Each F (set views pass w)
  each-set F views pass w mine others j u e =
      elim (at_set views pass j w u e) [ inl x ↦ subst F x.1 mine | inr x ↦ others j u x.0 x.1 ]

  -- a fact of each view with one more
  pub each-push : (F : V → Type 0) (views : List V) (w : V) → F w → Each F views → Each F (views ++ w ∷ [])
  each-push F views w mine others j u e =
      elim (at_snoc views w u j e) [ inl x ↦ others j u x | inr x ↦ subst F x mine ]

  -- the length as a weighing
  pub sum-one : (xs : List V) → sum_by (λ _. 1) xs ≡ length xs
  sum-one [] = refl
  sum-one (x ∷ xs) = let r = sum-one xs in omega (arith, sum_by-cons (λ (_ : V). 1) x xs)

module _ {O : Type 0} where
  -- one for each with this number
  abbrev pub has_number : ℕ → ℕ × O → ℕ
  has_number k x = if eqb x.0 k then 1 else 0

  number_counts : (k : ℕ) (x : ℕ × O) → ((has_number k x ≡ 1) × (x.0 ≡ k)) ⊎ ((has_number k x ≡ 0) × (x.0 ≢ k))
  number_counts k x =
      elim (eqb_tells x.0 k) [
        | inl e ↦ inl (ap (λ (b : Bool). if b then 1 else 0) e.0, e.1)
        | inr e ↦ inr (ap (λ (b : Bool). if b then 1 else 0) e.0, e.1)
      ]

  -- one that is there weighs something
  pub there_weighs : (xs : List (ℕ × O)) (x : ℕ × O) → Has xs x → 0 < sum_by (has_number x.0) xs
  there_weighs [] x h = absurd h
  there_weighs (y ∷ ys) x h =
      elim h [
        | inl e ↦ let n : y.0 ≡ x.0 = ap (λ (p : ℕ × O). p.0) e in
            elim (number_counts x.0 y) [
              | inl c ↦ omega (arith, sum_by-cons (has_number x.0) y ys, c.0)
              | inr c ↦ absurd (c.1 n)
            ]
        | inr t ↦ let r = there_weighs ys x t in omega (arith, sum_by-cons (has_number x.0) y ys)
      ]

  -- where something weighs, there is one of that number
  pub weighs_there : (k : ℕ) (xs : List (ℕ × O)) → 0 < sum_by (has_number k) xs → (o : O) × Has xs (k, o)
  weighs_there k [] l = absurd (omega arith)
  weighs_there k (y ∷ ys) l =
      elim (number_counts k y) [
        | inl c ↦ (y.1, inl (λ i. (c.1 i, y.1)))
        | inr c ↦ let r = weighs_there k ys (omega (arith, sum_by-cons (has_number k) y ys, c.0)) in (r.0, inr r.1)
      ]
