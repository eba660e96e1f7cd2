-- What `fresh`, `areas` and `held` say of a heap.
use Rattle.std.proofs.Common.{◌≡◌, ℕ, suc, zero, ◌+◌, ◌/◌, ◌<◌, ◌≤◌, max, inl, inr, true, false, cond, leb, if◌then◌else◌, List, [], ◌∷◌, ◌==◌, sum_by, refl, sym, subst, ◌∙◌, arith}
use Rattle.std.specs.Ordering.{nat_cmp, eq_by_cmp}
use Rattle.std.specs.List.{list_any}
use Rattle.std.specs.Cmp.{unsigned_tied}
use Rattle.std.specs.FinMap.{contains_key, empty, insert, remove, len, keys, contains_key-keys}
use Rattle.std.proofs.lemmas.Bool.{cases_eq, cases_Bool, agree_below_at, le-leb, eq-eqb, eqb-true, ne_eqb, cond-true, cond-false, true≢false, or_cases, or_left, or_right}
use Rattle.std.proofs.lemmas.List.Sums.{sum_by-cons, sum_by-le-sum_by}
use Rattle.dym_base.specs.Numbers.{per, number, exponent_of, index_of, classes}
use Rattle.dym_base.specs.Heaps.{Live, free_index, fresh, areas_over, areas, held}
use Rattle.dym_base.proofs.Maps.{Has, has_not_empty, has_new, has_kept, has_cases, has_removed, keys_counted}

-- fresh

number_apart : (e i j : ℕ) → number e i ≡ number e j → i ≡ j
number_apart e i j same = omega arith

-- what stands below the index that is found is live
below_free_index : (live : Live) (e n i j : ℕ) → i ≤ j → j < free_index live e n i → Has live (number e j)
below_free_index live e zero i j low high = absurd (omega arith)
below_free_index live e (suc n) i j low high =
    elim (contains_key live (number e i)) as (λ b. contains_key live (number e i) ≡ b → j < cond b (free_index live e n (i + 1)) i → Has live (number e j)) [
      | true ↦ λ is high. elim (cases_eq i j) as (λ _. Has live (number e j)) [
        | inl same ↦ subst (λ k. Has live (number e k)) same is
        | inr ne ↦ below_free_index live e n (i + 1) j (omega arith) high
      ]
      | false ↦ λ is high. absurd (omega arith)
    ] refl high

-- the index that is found is not live, where n are not enough to make all live
free_index_free : (live : Live) (e n i : ℕ) → (((j : ℕ) → i ≤ j → j < i + (n + 1) → Has live (number e j)) → ⊥) → contains_key live (number e (free_index live e n i)) ≡ false
free_index_free live e zero i some =
    elim (cases_Bool (contains_key live (number e i))) as (λ _. contains_key live (number e i) ≡ false) [
      | inl is ↦ absurd (some (λ j low high. subst (λ k. Has live (number e k)) (omega arith) is))
      | inr isnt ↦ isnt
    ]
free_index_free live e (suc n) i some =
    elim (contains_key live (number e i)) as (λ b. contains_key live (number e i) ≡ b → contains_key live (number e (cond b (free_index live e n (i + 1)) i)) ≡ false) [
      | true ↦ λ is. free_index_free live e n (i + 1) (λ all. some (λ j low high. elim (cases_eq i j) as (λ _. Has live (number e j)) [
        | inl same ↦ subst (λ k. Has live (number e k)) same is
        | inr ne ↦ all j (omega arith) (omega arith)
      ]))
      | false ↦ λ is. is
    ] refl

pub fresh_free : (live : Live) (e : ℕ) → contains_key live (number e (fresh live e)) ≡ false
unfolding fresh
fresh_free live e =
    free_index_free live e (len live) 0 (λ all.
    let counted : len live + 1 ≤ len live = keys_counted (number e) (number_apart e) (len live + 1) live 0 (λ i low high. all i low (omega arith)) in
    omega arith)

pub below_fresh : (live : Live) (e i : ℕ) → i < fresh live e → Has live (number e i)
unfolding fresh
below_fresh live e i high = below_free_index live e (len live) 0 i (omega arith) high

-- areas

-- the areas of class e that reach as far as the handle of number k
abbrev pub reach : ℕ → ℕ → ℕ
reach e k = if exponent_of k == e then index_of k / per e + 1 else 0

pub reach_there : (e k : ℕ) → exponent_of k ≡ e → reach e k ≡ index_of k / per e + 1
reach_there e k is = cond-true (exponent_of k == e) _ _ (eq-eqb (exponent_of k) e is)

pub reach_other : (e k : ℕ) → (exponent_of k ≡ e → ⊥) → reach e k ≡ 0
reach_other e k isnt = cond-false (exponent_of k == e) _ _ (ne_eqb (exponent_of k) e isnt)

areas_over_least : (e n : ℕ) (ks : List ℕ) → ((k : ℕ) → list_any (eq_by_cmp nat_cmp k) ks ≡ true → reach e k ≤ n) → areas_over e ks ≤ n
areas_over_least e n [] each = omega arith
areas_over_least e n (k ∷ ks) each =
    let here : reach e k ≤ n = each k (or_left _ _ (unsigned_tied k k ∙ eq-eqb k k refl)) in
    let rest = areas_over_least e n ks (λ q is. each q (or_right _ _ is)) in
    omega arith

areas_over_each : (e k : ℕ) (ks : List ℕ) → list_any (eq_by_cmp nat_cmp k) ks ≡ true → reach e k ≤ areas_over e ks
areas_over_each e k [] is = absurd (true≢false (sym is))
areas_over_each e k (q ∷ ks) is =
    elim (or_cases (eq_by_cmp nat_cmp k q) (list_any (eq_by_cmp nat_cmp k) ks) is) as (λ _. reach e k ≤ max (reach e q) (areas_over e ks)) [
      | inl here ↦ (let same : k ≡ q = eqb-true k q (sym (unsigned_tied k q) ∙ here) in
          subst (λ x. reach e k ≤ max (reach e x) (areas_over e ks)) same (omega arith))
      | inr there ↦ (let rest = areas_over_each e k ks there in omega arith)
    ]

-- areas is at least what each live chunk reaches, and no more
pub reach_areas : (live : Live) (e k : ℕ) → Has live k → reach e k ≤ areas live e
unfolding areas
reach_areas live e k has = areas_over_each e k (keys live) (sym (contains_key-keys live k) ∙ has)

pub areas_least : (live : Live) (e n : ℕ) → ((k : ℕ) → Has live k → reach e k ≤ n) → areas live e ≤ n
unfolding areas
areas_least live e n each = areas_over_least e n (keys live) (λ k is. each k (contains_key-keys live k ∙ is))

pub areas_grow : (a b : Live) → ((k : ℕ) → Has a k → Has b k) → (e : ℕ) → areas a e ≤ areas b e
areas_grow a b each e = areas_least a e (areas b e) (λ k has. reach_areas b e k (each k has))

pub areas_same : (a b : Live) → ((k : ℕ) → Has a k → Has b k) → ((k : ℕ) → Has b k → Has a k) → (e : ℕ) → areas a e ≡ areas b e
areas_same a b there back e =
    let less = areas_grow a b there e in
    let more = areas_grow b a back e in
    omega arith

-- a class has at most n areas just where each live index of it, divided by the chunks of an area, is below n
pub areas_below : (live : Live) (e n : ℕ) → (areas live e ≤ n → (k : ℕ) → Has live k → exponent_of k ≡ e → index_of k / per e < n) × (((k : ℕ) → Has live k → exponent_of k ≡ e → index_of k / per e < n) → areas live e ≤ n)
areas_below live e n = (
  λ few k has is. (let far = reach_areas live e k has in let there = reach_there e k is in omega arith),
  λ each. areas_least live e n (λ k has. elim (cases_eq (exponent_of k) e) as (λ _. reach e k ≤ n) [
    | inl is ↦ (let base_logs = each k has is in let there = reach_there e k is in omega arith)
    | inr isnt ↦ (let other = reach_other e k isnt in omega arith)
  ]),
)

-- the areas after a chunk came
pub areas_insert : (live : Live) (k : ℕ) (bytes : List ℕ) (e : ℕ) → areas (insert live k bytes) e ≡ max (reach e k) (areas live e)
areas_insert live k bytes e =
    let before = areas_grow live (insert live k bytes) (has_kept live k bytes) e in
    let here = reach_areas (insert live k bytes) e k (has_new live k bytes) in
    let no_more : areas (insert live k bytes) e ≤ max (reach e k) (areas live e) =
    areas_least (insert live k bytes) e _ (λ q has. elim (has_cases live k bytes q has) as (λ _. reach e q ≤ max (reach e k) (areas live e)) [
      | inl same ↦ subst (λ x. reach e q ≤ max (reach e x) (areas live e)) same (omega arith)
      | inr old ↦ (let far = reach_areas live e q old in omega arith)
    ]) in
    omega arith

-- held

sum_zero : (f : ℕ → ℕ) (xs : List ℕ) → ((x : ℕ) → f x ≡ 0) → sum_by f xs ≡ 0
sum_zero f [] each = refl
sum_zero f (x ∷ xs) each = sum_by-cons f x xs ∙ (let first = each x in let rest = sum_zero f xs each in omega arith)

pub held_grows : (a b : Live) → ((k : ℕ) → Has a k → Has b k) → held a ≤ held b
unfolding held
held_grows a b each = sum_by-le-sum_by (areas a) (areas b) classes (areas_grow a b each)

pub held_same : (a b : Live) → ((k : ℕ) → Has a k → Has b k) → ((k : ℕ) → Has b k → Has a k) → held a ≡ held b
held_same a b there back =
    let less = held_grows a b there in
    let more = held_grows b a back in
    omega arith

pub held_empty : held empty ≡ 0
unfolding held
held_empty = sum_zero (areas empty) classes (λ e. (let none : areas empty e ≤ 0 = areas_least empty e 0 (λ k has. absurd (has_not_empty empty k refl has)) in omega arith))

-- which bytes a new chunk has doesn't matter
pub held_insert_any : (live : Live) (k : ℕ) (bytes other : List ℕ) → held (insert live k bytes) ≡ held (insert live k other)
held_insert_any live k bytes other =
    let as_well : (b c : List ℕ) (q : ℕ) → Has (insert live k b) q → Has (insert live k c) q =
    λ b c q has. elim (has_cases live k b q has) as (λ _. Has (insert live k c) q) [
      | inl same ↦ subst (λ x. Has (insert live k c) x) (sym same) (has_new live k c)
      | inr old ↦ has_kept live k c q old
    ] in
    held_same (insert live k bytes) (insert live k other) (as_well bytes other) (as_well other bytes)

-- new bytes for a live chunk need no more
pub held_insert_live : (live : Live) (k : ℕ) (bytes : List ℕ) → Has live k → held (insert live k bytes) ≡ held live
held_insert_live live k bytes has =
    held_same (insert live k bytes) live
    (λ q is. elim (has_cases live k bytes q is) as (λ _. Has live q) [
      | inl same ↦ subst (λ x. Has live x) (sym same) has
      | inr old ↦ old
    ])
    (has_kept live k bytes)

pub held_insert : (live : Live) (k : ℕ) (bytes : List ℕ) → held live ≤ held (insert live k bytes)
held_insert live k bytes = held_grows live (insert live k bytes) (has_kept live k bytes)

pub held_remove : (live : Live) (k : ℕ) → held (remove live k) ≤ held live
held_remove live k = held_grows (remove live k) live (λ q has. (has_removed live k q has).1)

-- the areas of one class are among those that are held
areas_in_sum : (f : ℕ → ℕ) (e : ℕ) (xs : List ℕ) → list_any (λ x. x == e) xs ≡ true → f e ≤ sum_by f xs
areas_in_sum f e [] is = absurd (true≢false (sym is))
areas_in_sum f e (x ∷ xs) is =
    rw (sum_by-cons f x xs) (elim (or_cases (x == e) (list_any (λ y. y == e) xs) is) as (λ _. f e ≤ f x + sum_by f xs) [
      | inl here ↦ subst (λ y. f y ≤ f x + sum_by f xs) (eqb-true x e here) (omega arith)
      | inr there ↦ (let rest = areas_in_sum f e xs there in omega arith)
    ])

is_class : (e : ℕ) → 5 ≤ e → e ≤ 16 → list_any (λ x. x == e) classes ≡ true
is_class e low high = agree_below_at (λ x. list_any (λ y. y == x) classes) (λ x. leb 5 x) 17 e refl (omega arith) ∙ le-leb 5 e low

pub areas_held : (live : Live) (e : ℕ) → 5 ≤ e → e ≤ 16 → areas live e ≤ held live
unfolding held
areas_held live e low high = areas_in_sum (areas live) e classes (is_class e low high)

-- the last area of a class is that of a live chunk
areas_over_reached : (e n : ℕ) (ks : List ℕ) → areas_over e ks ≡ n + 1 → (k : ℕ) × (list_any (eq_by_cmp nat_cmp k) ks ≡ true) × (reach e k ≡ n + 1)
areas_over_reached e n [] is = absurd (omega arith)
areas_over_reached e n (q ∷ ks) is =
    elim (cases_eq (reach e q) (n + 1)) as (λ _. (k : ℕ) × (list_any (eq_by_cmp nat_cmp k) (q ∷ ks) ≡ true) × (reach e k ≡ n + 1)) [
      | inl here ↦ (q, or_left _ _ (unsigned_tied q q ∙ eq-eqb q q refl), here)
      | inr isnt ↦ (let rest = areas_over_reached e n ks (omega arith) in (rest.0, or_right _ _ rest.1, rest.2))
    ]

pub areas_reached : (live : Live) (e n : ℕ) → areas live e ≡ n + 1 → (k : ℕ) × Has live k × (exponent_of k ≡ e) × (index_of k / per e ≡ n)
unfolding areas
areas_reached live e n is =
    let found = areas_over_reached e n (keys live) is in
    let k = found.0 in
    let has : Has live k = contains_key-keys live k ∙ found.1 in
    elim (cases_eq (exponent_of k) e) as (λ _. (x : ℕ) × Has live x × (exponent_of x ≡ e) × (index_of x / per e ≡ n)) [
      | inl same ↦ (let there = reach_there e k same in (k, has, same, omega (arith, found.2)))
      | inr isnt ↦ (let other = reach_other e k isnt in absurd (omega (arith, found.2)))
    ]
