-- Maps whose keys are numbers: what they have after a step.
use Rattle.std.proofs.Common.{◌≡◌, ℕ, suc, zero, ◌+◌, ◌-◌, ◌<◌, ◌≤◌, ◌⊎◌, inl, inr, true, cond, is_some, Some, None, ◌==◌, refl, sym, ap, ◌∙◌, arith}
use Rattle.std.specs.Ordering.{nat_cmp}
use Rattle.std.specs.Cmp.{nat_cmp_total, unsigned_tied}
use Rattle.std.specs.FinMap.{FinMap, get, contains_key, insert, remove, len, empty, get-insert, get-remove, get-empty, len-remove, empty_of_len}
use Rattle.std.proofs.lemmas.Bool.{cases_eq, eq-eqb, ne_eqb, cond-true, cond-false, true≢false}

module _ {X : Type 0} where
  pub get_insert : (m : FinMap nat_cmp X) (k : ℕ) (v : X) (q : ℕ) → get (insert m k v) q ≡ cond (q == k) (Some v) (get m q)
  get_insert m k v q = get-insert nat_cmp_total m k v q ∙ ap (λ b. cond b (Some v) (get m q)) (unsigned_tied q k)

  pub get_remove : (m : FinMap nat_cmp X) (k q : ℕ) → get (remove m k) q ≡ cond (q == k) None (get m q)
  get_remove m k q = get-remove nat_cmp_total m k q ∙ ap (λ b. cond b None (get m q)) (unsigned_tied q k)

  pub get_insert_here : (m : FinMap nat_cmp X) (k : ℕ) (v : X) (q : ℕ) → q ≡ k → get (insert m k v) q ≡ Some v
  get_insert_here m k v q e = get_insert m k v q ∙ cond-true (q == k) _ _ (eq-eqb q k e)

  pub get_insert_apart : (m : FinMap nat_cmp X) (k : ℕ) (v : X) (q : ℕ) → (q ≡ k → ⊥) → get (insert m k v) q ≡ get m q
  get_insert_apart m k v q ne = get_insert m k v q ∙ cond-false (q == k) _ _ (ne_eqb q k ne)

  pub get_remove_here : (m : FinMap nat_cmp X) (k q : ℕ) → q ≡ k → get (remove m k) q ≡ None
  get_remove_here m k q e = get_remove m k q ∙ cond-true (q == k) _ _ (eq-eqb q k e)

  pub get_remove_apart : (m : FinMap nat_cmp X) (k q : ℕ) → (q ≡ k → ⊥) → get (remove m k) q ≡ get m q
  get_remove_apart m k q ne = get_remove m k q ∙ cond-false (q == k) _ _ (ne_eqb q k ne)

  -- the key q is there
  abbrev pub Has : FinMap nat_cmp X → ℕ → Type 0
  Has m q = contains_key m q ≡ true

  pub has_some : (m : FinMap nat_cmp X) (q : ℕ) (v : X) → get m q ≡ Some v → Has m q
  has_some m q v e = ap is_some e

  pub has_none : (m : FinMap nat_cmp X) (q : ℕ) → get m q ≡ None → Has m q → ⊥
  has_none m q e h = true≢false (sym h ∙ ap is_some e)

  pub has_new : (m : FinMap nat_cmp X) (k : ℕ) (v : X) → Has (insert m k v) k
  has_new m k v = has_some (insert m k v) k v (get_insert_here m k v k refl)

  pub has_kept : (m : FinMap nat_cmp X) (k : ℕ) (v : X) (q : ℕ) → Has m q → Has (insert m k v) q
  has_kept m k v q h =
      elim (cases_eq q k) as (λ _. Has (insert m k v) q) [
        | inl e ↦ has_some (insert m k v) q v (get_insert_here m k v q e)
        | inr ne ↦ ap is_some (get_insert_apart m k v q ne) ∙ h
      ]

  pub has_cases : (m : FinMap nat_cmp X) (k : ℕ) (v : X) (q : ℕ) → Has (insert m k v) q → (q ≡ k) ⊎ Has m q
  has_cases m k v q h =
      elim (cases_eq q k) as (λ _. (q ≡ k) ⊎ Has m q) [
        | inl e ↦ inl e
        | inr ne ↦ inr (sym (ap is_some (get_insert_apart m k v q ne)) ∙ h)
      ]

  pub has_removed : (m : FinMap nat_cmp X) (k q : ℕ) → Has (remove m k) q → (q ≡ k → ⊥) × Has m q
  has_removed m k q h =
      elim (cases_eq q k) as (λ _. (q ≡ k → ⊥) × Has m q) [
        | inl e ↦ absurd (has_none (remove m k) q (get_remove_here m k q e) h)
        | inr ne ↦ (ne, sym (ap is_some (get_remove_apart m k q ne)) ∙ h)
      ]

  pub has_left : (m : FinMap nat_cmp X) (k q : ℕ) → (q ≡ k → ⊥) → Has m q → Has (remove m k) q
  has_left m k q ne h = ap is_some (get_remove_apart m k q ne) ∙ h

  pub has_not_empty : (m : FinMap nat_cmp X) (q : ℕ) → m ≡ empty → Has m q → ⊥
  has_not_empty m q e = has_none m q (ap (λ n. get n q) e ∙ get-empty nat_cmp q)

  -- a map with a key has an entry
  pub len_has : (m : FinMap nat_cmp X) (q : ℕ) → Has m q → 0 < len m
  len_has m q h =
      elim (cases_eq (len m) 0) as (λ _. 0 < len m) [
        | inl e ↦ absurd (has_not_empty m q (empty_of_len m e) h)
        | inr ne ↦ omega arith
      ]

  pub len_removed : (m : FinMap nat_cmp X) (k : ℕ) → Has m k → len (remove m k) + 1 ≡ len m
  len_removed m k h =
      let least = len_has m k h in
      let fewer : len (remove m k) ≡ len m - 1 = len-remove nat_cmp_total m k ∙ cond-true (contains_key m k) _ _ h in
      omega arith

  -- a map that has as many different keys has as many entries
  pub keys_counted : (key : ℕ → ℕ) → ((i j : ℕ) → key i ≡ key j → i ≡ j) → (n : ℕ) (m : FinMap nat_cmp X) (a : ℕ) → ((i : ℕ) → a ≤ i → i < a + n → Has m (key i)) → n ≤ len m
  keys_counted key apart zero m a has = omega arith
  keys_counted key apart (suc n) m a has =
      let first : Has m (key a) = has a (omega arith) (omega arith) in
      let rest : n ≤ len (remove m (key a)) = keys_counted key apart n (remove m (key a)) (a + 1) (λ i low high. has_left m (key a) (key i) (λ e. (let same = apart i a e in omega arith)) (has i (omega arith) (omega arith))) in
      let more = len_removed m (key a) first in
      omega arith
