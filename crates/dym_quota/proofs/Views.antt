-- Sums over all views, and what a change of one view does to them.
use Rattle.std.proofs.Common.{◌≡◌, ◌≢◌, ℕ, zero, suc, ◌+◌, ◌≤◌, List, [], ◌∷◌, ◌++◌, set, sum_by, refl, sym, ap, subst, ⊎_elim, arith}
use mathlib.Core.Option.{some, some-injective, some-ne-none}
use lib.ListN.{get_elem?}
use Rattle.std.proofs.lemmas.List.Sums.{sum_by-cons, sum_by-append}
use Rattle.crossbeam_queue.proofs.Lists.{at_set, at_snoc}
use Rattle.dym_region.specs.declared.segment.SegmentId.{SegmentId}
use Rattle.dym_quota.specs.declared.pass_view.PassView.{PassView}
use Rattle.dym_quota.specs.SegmentRule.{IsViewAt, all_held}

abbrev pub Each : (PassView → Type 0) → List PassView → Type 0
Each F views = (pass : ℕ) (v : PassView) → IsViewAt views pass v → F v

-- a sum after one view was set
pub sum-set : (f : PassView → ℕ) (views : List PassView) (pass : ℕ) (v w : PassView) → IsViewAt views pass v → sum_by f (set views pass w) + f v ≡ sum_by f views + f w
sum-set f [] pass v w at = absurd (some-ne-none v (sym at))
sum-set f (x ∷ xs) zero v w at = let same : f x ≡ f v = ap f (some-injective x v at) in omega (arith, sum_by-cons f x xs, sum_by-cons f w xs)
sum-set f (x ∷ xs) (suc pass) v w at = let r = sum-set f xs pass v w at in omega (arith, sum_by-cons f x xs, sum_by-cons f x (set xs pass w))

-- a sum with one view more
pub sum-push : (f : PassView → ℕ) (views : List PassView) (w : PassView) → sum_by f (views ++ w ∷ []) ≡ sum_by f views + f w
sum-push f views w = omega (arith, sum_by-append f views (w ∷ []), sum_by-cons f w [])

sum-le : (f g : PassView → ℕ) (views : List PassView) → Each (λ v. f v ≤ g v) views → sum_by f views ≤ sum_by g views
sum-le f g [] all = omega arith
sum-le f g (x ∷ xs) all =
    let a = all 0 x refl in
    let r = sum-le f g xs (λ i. all (suc i)) in
    omega (arith, sum_by-cons f x xs, sum_by-cons g x xs)

-- where f is at most g everywhere, one view's gap is in the sums
pub sum-gap : (f g : PassView → ℕ) (views : List PassView) (pass : ℕ) (v : PassView) → Each (λ v. f v ≤ g v) views → IsViewAt views pass v → sum_by f views + g v ≤ sum_by g views + f v
sum-gap f g [] pass v all at = absurd (some-ne-none v (sym at))
sum-gap f g (x ∷ xs) zero v all at =
    let p : f x ≡ f v = ap f (some-injective x v at) in
    let q : g x ≡ g v = ap g (some-injective x v at) in
    let r = sum-le f g xs (λ i. all (suc i)) in
    omega (arith, sum_by-cons f x xs, sum_by-cons g x xs)
sum-gap f g (x ∷ xs) (suc pass) v all at =
    let a = all 0 x refl in
    let r = sum-gap f g xs pass v (λ i. all (suc i)) at in
    omega (arith, sum_by-cons f x xs, sum_by-cons g x xs)

-- one view's part is in the sum
pub sum-part : (f : PassView → ℕ) (views : List PassView) (pass : ℕ) (v : PassView) → IsViewAt views pass v → f v ≤ sum_by f views
sum-part f [] pass v at = absurd (some-ne-none v (sym at))
sum-part f (x ∷ xs) zero v at = let p : f x ≡ f v = ap f (some-injective x v at) in omega (arith, sum_by-cons f x xs)
sum-part f (x ∷ xs) (suc pass) v at = let r = sum-part f xs pass v at in omega (arith, sum_by-cons f x xs)

sum-nothing : (f g : PassView → ℕ) (views : List PassView) → Each (λ v. g v ≡ 0 → f v ≡ 0) views → sum_by g views ≡ 0 → sum_by f views ≡ 0
sum-nothing f g [] none e = refl
sum-nothing f g (x ∷ xs) none e =
    let a = none 0 x refl (omega (arith, sum_by-cons g x xs)) in
    let r = sum-nothing f g xs (λ i. none (suc i)) (omega (arith, sum_by-cons g x xs)) in
    omega (arith, sum_by-cons f x xs)

-- where one view has all of g, and f is 0 where g is, that view has all of f
pub sum-alone : (f g : PassView → ℕ) (views : List PassView) (pass : ℕ) (v : PassView) → Each (λ v. g v ≡ 0 → f v ≡ 0) views → IsViewAt views pass v → sum_by g views ≡ g v → sum_by f views ≡ f v
sum-alone f g [] pass v none at all = absurd (some-ne-none v (sym at))
sum-alone f g (x ∷ xs) zero v none at all =
    let p : f x ≡ f v = ap f (some-injective x v at) in
    let q : g x ≡ g v = ap g (some-injective x v at) in
    let r = sum-nothing f g xs (λ i. none (suc i)) (omega (arith, sum_by-cons g x xs)) in
    omega (arith, sum_by-cons f x xs)
sum-alone f g (x ∷ xs) (suc pass) v none at all =
    let part = sum-part g xs pass v at in
    let a = none 0 x refl (omega (arith, sum_by-cons g x xs)) in
    let r = sum-alone f g xs pass v (λ i. none (suc i)) at (omega (arith, sum_by-cons g x xs)) in
    omega (arith, sum_by-cons f x xs, sum_by-cons g x xs)

-- what all views hold weighs what each of them holds, added up
pub weigh-all : (h : SegmentId → ℕ) (views : List PassView) → sum_by h (all_held views) ≡ sum_by (λ v. sum_by h v.held) views
weigh-all h [] = refl
weigh-all h (x ∷ xs) =
    let r = weigh-all h xs in
    omega (arith, sum_by-append h x.held (all_held xs), sum_by-cons (λ (v : PassView). sum_by h v.held) x xs)

-- a fact of each view after one was set
pub each-set : (F : PassView → Type 0) (views : List PassView) (pass : ℕ) (w : PassView) → F w → ((other : ℕ) (u : PassView) → other ≢ pass → IsViewAt views other u → F u) → Each F (set views pass w)
each-set F views pass w mine others j u e =
    ⊎_elim (λ (x : (j ≡ pass) × (w ≡ u)). subst F x.1 mine) (λ (x : (j ≢ pass) × (get_elem? views j ≡ some u)). others j u x.0 x.1) (at_set views pass j w u e)

-- a fact of each view with one more
pub each-push : (F : PassView → Type 0) (views : List PassView) (w : PassView) → F w → Each F views → Each F (views ++ w ∷ [])
each-push F views w mine others j u e =
    ⊎_elim (λ (x : get_elem? views j ≡ some u). others j u x) (λ (x : w ≡ u). subst F x mine) (at_snoc views w u j e)
