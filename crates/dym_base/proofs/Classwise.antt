-- How a chunk that comes or goes changes the areas of its own class, and so what is held.
use Rattle.std.proofs.Common.{◌≡◌, ℕ, suc, zero, ◌+◌, ◌-◌, ◌*◌, ◌/◌, ◌%◌, ◌^◌, ◌<◌, ◌≤◌, max, inl, inr, Bool, true, false, not, cond, leb, List, [], ◌∷◌, ◌==◌, sum_by, refl, sym, ap, ◌∙◌, arith}
use Rattle.std.specs.List.{list_any}
use Rattle.std.specs.FinMap.{insert}
use Rattle.std.proofs.lemmas.Bool.{cases_eq, agree_below_at, le-leb, eqb-true, eqb-false, not-true, or_parts, true≢false}
use Rattle.std.proofs.lemmas.List.Sums.{sum_by-cons}
use Rattle.std.proofs.Math.Nat.{suc-mul}
use Rattle.std.proofs.lemmas.Nat.{pow_pos, div-add-mod', div-mul-add}
use Rattle.dym_base.specs.Numbers.{per, number, exponent_of, index_of, classes}
use Rattle.dym_base.specs.Heaps.{Live, fresh, areas, held}
use Rattle.dym_base.specs.HeapStep.{held_with_fresh}
use Rattle.dym_base.proofs.Heaps.{below_fresh, reach, reach_there, reach_other, reach_areas, areas_insert}

pub held_sum : (live : Live) → held live ≡ sum_by (areas live) classes
unfolding held
held_sum live = refl

-- a number stands exactly once in a list
abbrev once : ℕ → List ℕ → Bool
once e [] = false
once e (x ∷ xs) = cond (x == e) (not (list_any (λ y. y == e) xs)) (once e xs)

class_once : (e : ℕ) → 5 ≤ e → e ≤ 16 → once e classes ≡ true
class_once e low high = agree_below_at (λ x. once x classes) (λ x. leb 5 x) 17 e refl (omega arith) ∙ le-leb 5 e low

sum_apart : (f g : ℕ → ℕ) (e : ℕ) → ((x : ℕ) → (x ≡ e → ⊥) → f x ≡ g x) → (xs : List ℕ) → list_any (λ y. y == e) xs ≡ false → sum_by f xs ≡ sum_by g xs
sum_apart f g e same [] none = refl
sum_apart f g e same (x ∷ xs) none =
    let parts = or_parts (x == e) (list_any (λ y. y == e) xs) none in
    let first = same x (eqb-false x e parts.0) in
    let rest = sum_apart f g e same xs parts.1 in
    sum_by-cons f x xs ∙ (let both : f x + sum_by f xs ≡ g x + sum_by g xs = omega arith in both) ∙ sym (sum_by-cons g x xs)

sum_once : (f g : ℕ → ℕ) (e : ℕ) → ((x : ℕ) → (x ≡ e → ⊥) → f x ≡ g x) → (xs : List ℕ) → once e xs ≡ true → sum_by g xs + f e ≡ sum_by f xs + g e
sum_once f g e same [] is = absurd (true≢false (sym is))
sum_once f g e same (x ∷ xs) is =
    let f_sum = sum_by-cons f x xs in
    let g_sum = sum_by-cons g x xs in
    elim (x == e) as (λ b. x == e ≡ b → cond b (not (list_any (λ y. y == e) xs)) (once e xs) ≡ true → sum_by g (x ∷ xs) + f e ≡ sum_by f (x ∷ xs) + g e) [
      | true ↦ λ here none. (
          let at : x ≡ e = eqb-true x e here in
          let f_here : f x ≡ f e = ap f at in
          let g_here : g x ≡ g e = ap g at in
          let rest = sum_apart f g e same xs (not-true _ none) in
          omega arith)
      | false ↦ λ other there. (
          let first = same x (eqb-false x e other) in
          let rest = sum_once f g e same xs there in
          omega arith)
    ] refl is

-- two heaps that differ in the areas of one class differ so in what is held
pub held_class : (a b : Live) (e : ℕ) → 5 ≤ e → e ≤ 16 → ((x : ℕ) → (x ≡ e → ⊥) → areas a x ≡ areas b x) → held b + areas a e ≡ held a + areas b e
held_class a b e low high same =
    let a_sum = held_sum a in
    let b_sum = held_sum b in
    let sums = sum_once (areas a) (areas b) e same classes (class_once e low high) in
    omega arith

pub areas_insert_other : (live : Live) (k : ℕ) (bytes : List ℕ) (e : ℕ) → (exponent_of k ≡ e → ⊥) → areas (insert live k bytes) e ≡ areas live e
areas_insert_other live k bytes e other =
    let after = areas_insert live k bytes e in
    let none = reach_other e k other in
    omega arith

pub held_insert_class : (live : Live) (k : ℕ) (bytes : List ℕ) (e : ℕ) → 5 ≤ e → e ≤ 16 → exponent_of k ≡ e → held (insert live k bytes) + areas live e ≡ held live + areas (insert live k bytes) e
held_insert_class live k bytes e low high is = held_class live (insert live k bytes) e low high (λ x ne. sym (areas_insert_other live k bytes x (λ also. ne (sym also ∙ is))))

-- a fresh chunk stands in an area that is there, or is the first of the next one

before_place : (q p : ℕ) → 0 < q → 0 < p → ((q * p - 1) / p ≡ q - 1) × (0 < q * p)
before_place zero p first some = absurd (omega arith)
before_place (suc r) p first some =
    let more : suc r * p ≡ r * p + p = suc-mul r p in
    let as_place : suc r * p - 1 ≡ r * p + (p - 1) = omega arith in
    (ap (λ n. n / p) as_place ∙ div-mul-add r p (p - 1) (omega arith) ∙ omega arith, omega arith)

-- each area below the fresh index's own is there
pub fresh_area : (live : Live) (e : ℕ) → fresh live e < 2 ^ 32 → fresh live e / per e ≤ areas live e
fresh_area live e small =
    let some = pow_pos (16 - e) in
    let split : fresh live e / per e * per e + fresh live e % per e ≡ fresh live e = div-add-mod' (fresh live e) (per e) in
    elim (cases_eq (fresh live e / per e) 0) as (λ _. fresh live e / per e ≤ areas live e) [
      | inl none ↦ omega arith
      | inr ne ↦ (
          let q = fresh live e / per e in
          let before = before_place q (per e) (omega arith) some in
          let last = q * per e - 1 in
          let within : last < fresh live e = omega (arith, before.1) in
          let class : exponent_of (number e last) ≡ e = omega arith in
          let index : index_of (number e last) ≡ last = omega arith in
          let far = reach_areas live e (number e last) (below_fresh live e last within) in
          let there : reach e (number e last) ≡ last / per e + 1 = reach_there e (number e last) class ∙ ap (λ i. i / per e + 1) index in
          omega (arith, before.0))
    ]

pub areas_with_fresh : (live : Live) (e : ℕ) (bytes : List ℕ) → fresh live e < 2 ^ 32 → areas (insert live (number e (fresh live e)) bytes) e ≡ max (fresh live e / per e + 1) (areas live e)
areas_with_fresh live e bytes small =
    let k = number e (fresh live e) in
    let class : exponent_of k ≡ e = omega arith in
    let index : index_of k ≡ fresh live e = omega arith in
    let there : reach e k ≡ fresh live e / per e + 1 = reach_there e k class ∙ ap (λ i. i / per e + 1) index in
    areas_insert live k bytes e ∙ ap (λ n. max n (areas live e)) there

-- where an area that is there has room, no segment more is needed
pub held_with_fresh_inside : (live : Live) (e : ℕ) → 5 ≤ e → e ≤ 16 → fresh live e < 2 ^ 32 → fresh live e / per e < areas live e → held_with_fresh live e ≡ held live
held_with_fresh_inside live e low high small inside =
    let class : exponent_of (number e (fresh live e)) ≡ e = omega arith in
    let after = areas_with_fresh live e [] small in
    let change = held_insert_class live (number e (fresh live e)) [] e low high class in
    omega arith

-- where none has, the chunk is the first of the next area, and one segment more is needed
pub held_with_fresh_next : (live : Live) (e : ℕ) → 5 ≤ e → e ≤ 16 → fresh live e < 2 ^ 32 → areas live e ≤ fresh live e / per e → (fresh live e / per e ≡ areas live e) × (held_with_fresh live e ≡ held live + 1)
held_with_fresh_next live e low high small past =
    let class : exponent_of (number e (fresh live e)) ≡ e = omega arith in
    let most = fresh_area live e small in
    let after = areas_with_fresh live e [] small in
    let change = held_insert_class live (number e (fresh live e)) [] e low high class in
    (omega arith, omega arith)
