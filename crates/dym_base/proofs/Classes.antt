-- The class of a length: what `cls` finds.
use Rattle.std.proofs.Common.{◌≡◌, ℕ, zero, suc, ◌+◌, ◌-◌, ◌^◌, ◌<◌, ◌≤◌, ◌⊎◌, inl, inr, Bool, true, false, cond, nat_le, find, Some, None, refl, ap, subst, ◌∙◌, arith}
use Rattle.std.specs.List.{range_with_len}
use Rattle.std.proofs.Math.Pow.{pow_mono}
use Rattle.std.proofs.lemmas.Bool.{cases_eq, leb-true, le-leb, lt-leb, cond-true, cond-false}
use Rattle.std.proofs.lemmas.Option.{same_Some}
use Rattle.dym_base.specs.Numbers.{cls, size}

-- the first number of a range that passes a test
pub find_in_range : (p : ℕ → Bool) (m a j : ℕ) → a ≤ j → j < a + m → ((i : ℕ) → a ≤ i → i < j → p i ≡ false) → p j ≡ true → find p (range_with_len a m) ≡ Some j
find_in_range p zero a j low high fails passes = absurd (omega arith)
find_in_range p (suc m) a j low high fails passes =
    elim (cases_eq a j) as (λ _. cond (p a) (Some a) (find p (range_with_len (a + 1) m)) ≡ Some j) [
      | inl e ↦ cond-true (p a) _ _ (ap p e ∙ passes) ∙ ap Some e
      | inr ne ↦ cond-false (p a) _ _ (fails a (omega arith) (omega arith)) ∙ find_in_range p m (a + 1) j (omega arith) (omega arith) (λ i l h. fails i (omega arith) h) passes
    ]

pub find_none_in_range : (p : ℕ → Bool) (m a : ℕ) → ((i : ℕ) → a ≤ i → i < a + m → p i ≡ false) → find p (range_with_len a m) ≡ None
find_none_in_range p zero a fails = refl
find_none_in_range p (suc m) a fails =
    cond-false (p a) _ _ (fails a (omega arith) (omega arith)) ∙ find_none_in_range p m (a + 1) (λ i l h. fails i (omega arith) (omega arith))

-- a number that is found is of the range, and passes
pub found_in_range : (p : ℕ → Bool) (m a j : ℕ) → find p (range_with_len a m) ≡ Some j → (a ≤ j) × (j < a + m) × (p j ≡ true)
found_in_range p zero a j is = cc
found_in_range p (suc m) a j is =
    elim (p a) as (λ b. p a ≡ b → cond b (Some a) (find p (range_with_len (a + 1) m)) ≡ Some j → (a ≤ j) × (j < a + suc m) × (p j ≡ true)) [
      | true ↦ λ passes here. (let same : a ≡ j = same_Some a j here in (omega arith, omega arith, subst (λ x. p x ≡ true) same passes))
      | false ↦ λ fails later. (let rest = found_in_range p m (a + 1) j later in (omega (arith, rest.0), omega (arith, rest.1), rest.2))
    ] refl is

-- the class of n bytes is e, where the class below is too small and e is not
pub cls_is : (n e : ℕ) → 5 ≤ e → e ≤ 16 → (e ≡ 5) ⊎ (2 ^ (e - 1) < n) → n ≤ 2 ^ e → cls n ≡ Some e
unfolding cls
cls_is n e low high base_logs fits =
    find_in_range (λ i. nat_le n (size i)) 12 5 e low (omega arith)
    (λ i l h. lt-leb n (2 ^ i) (elim base_logs as (λ _. 2 ^ i < n) [
      | inl is ↦ absurd (omega arith)
      | inr big ↦ omega (arith, pow_mono {i = i} {j = e - 1} (omega arith))
    ]))
    (le-leb n (2 ^ e) fits)

pub cls_none : (n : ℕ) → 65536 < n → cls n ≡ None
unfolding cls
cls_none n big =
    find_none_in_range (λ i. nat_le n (size i)) 12 5 (λ i l h. lt-leb n (2 ^ i) (
    let most : 2 ^ i ≤ 2 ^ 16 = pow_mono {i = i} {j = 16} (omega arith) in
    omega arith))

-- a class is one of the twelve, and large enough
pub cls_class : (n e : ℕ) → cls n ≡ Some e → (5 ≤ e) × (e ≤ 16) × (n ≤ 2 ^ e)
unfolding cls
cls_class n e is =
    let found = found_in_range (λ i. nat_le n (size i)) 12 5 e is in
    (found.0, omega (arith, found.1), leb-true n (2 ^ e) found.2)
