-- How many slots the owner's list leaves.
use Rattle.std.proofs.Common.{◌≡◌, inl, inr, ℕ, zero, suc, ◌+◌, ◌<◌, ◌≤◌, Bool, true, false, not, ◌||◌, nat_eq, List, [], ◌∷◌, length, refl, ap, arith, cond}
use Rattle.std.specs.List.{filter, list_any, range_with_len}
use Rattle.std.proofs.lemmas.Bool.{cases_eq}
use Rattle.std.proofs.lemmas.Bool.Decides.{nat_tests}
use Rattle.dym_slots.specs.declared.machine.Entry.{Entry}
use Rattle.dym_slots.specs.Slots.{Core}
use Rattle.dym_slots.specs.SlotLaws.{unlisted_slots}

-- how many of the n numbers from a on aren't taken
left : (ℕ → Bool) → ℕ → ℕ → ℕ
left taken a n = length (filter (λ s. not (taken s)) (range_with_len a n))

-- a number below all of them takes none away
left_base_logs : (taken : ℕ → Bool) (k a n : ℕ) → k < a → left taken a n ≤ left (λ s. nat_eq k s || taken s) a n
unfolding left
left_base_logs taken k a zero lt = omega arith
left_base_logs taken k a (suc n) lt =
    let old = filter (λ (s : ℕ). not (taken s)) (range_with_len (a + 1) n) in
    let new = filter (λ (s : ℕ). not (nat_eq k s || taken s)) (range_with_len (a + 1) n) in
    let rest = left_base_logs taken k (a + 1) n (omega arith) in
    let other : nat_eq k a ≡ false = grind (arith, nat_tests) in
    rw other (elim (taken a) as (λ b. length (cond (not b) (a ∷ old) old) ≤ length (cond (not (false || b)) (a ∷ new) new)) [
      | true ↦ rest
      | false ↦ omega (arith, rest)
    ])

-- a number takes at most one of them away
left_one : (taken : ℕ → Bool) (k a n : ℕ) → left taken a n ≤ left (λ s. nat_eq k s || taken s) a n + 1
unfolding left
left_one taken k a zero = omega arith
left_one taken k a (suc n) =
    let old = filter (λ (s : ℕ). not (taken s)) (range_with_len (a + 1) n) in
    let new = filter (λ (s : ℕ). not (nat_eq k s || taken s)) (range_with_len (a + 1) n) in
    elim (cases_eq k a) [
      | inl same ↦
          let rest = left_base_logs taken k (a + 1) n (omega arith) in
          let hit : nat_eq k a ≡ true = grind (arith, nat_tests) in
          rw hit (elim (taken a) as (λ b. length (cond (not b) (a ∷ old) old) ≤ length new + 1) [
            | true ↦ omega (arith, rest)
            | false ↦ omega (arith, rest)
          ])
      | inr other ↦
          let rest = left_one taken k (a + 1) n in
          let miss : nat_eq k a ≡ false = grind (arith, nat_tests) in
          rw miss (elim (taken a) as (λ b. length (cond (not b) (a ∷ old) old) ≤ length (cond (not (false || b)) (a ∷ new) new) + 1) [
            | true ↦ rest
            | false ↦ omega (arith, rest)
          ])
    ]

-- where none is taken, all are left
left_none : (a n : ℕ) → left (λ s. false) a n ≡ n
unfolding left
left_none a zero = refl
left_none a (suc n) = ap suc (left_none (a + 1) n)

left_all : (es : List Entry) (a n : ℕ) → n ≤ length es + left (λ s. list_any (λ (e : Entry). nat_eq e.slot s) es) a n
left_all [] a n = let all = left_none a n in omega arith
left_all (e ∷ es) a n =
    let rest = left_all es a n in
    let one = left_one (λ s. list_any (λ (x : Entry). nat_eq x.slot s) es) e.slot a n in
    omega (arith, rest, one)

pub room : (c : Core) → length c.slots ≤ length c.owner.list + length (unlisted_slots c)
unfolding left
room c = left_all c.owner.list 0 (length c.slots)
