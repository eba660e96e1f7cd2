-- Places in lists of events in order.
use Rattle.std.proofs.Common.{◌≡◌, ℕ, zero, suc, ◌+◌, ◌<◌, ◌≤◌, inl, inr, Bool, true, false, not, nat_le, List, [], ◌∷◌, ◌++◌, length, take, drop, get_or, refl, ap, sym, ◌∙◌, arith}
use Rattle.std.proofs.lemmas.Bool.{cases_Bool, cases_lt, le-leb, leb-true}
use Rattle.std.proofs.lemmas.List.{take_more}
use Rattle.std.specs.List.{remove, AllWithin}
use Rattle.std.specs.List.Sorted.{IsPartitionedBy}
use Rattle.warp_base.specs.declared.event.Event.{Event}
use Rattle.warp_base.specs.Events.{Each, precedes, copies, IsBefore, IsInOrder, AreFrom}
use Rattle.warp_base.proofs.Orders.{TellsApart, precedes_time, precedes_self, precedes_total, precedes_trans, hit_cases, copies-append}

module _ {X : Type 0} (Q : X → Type 0) where
  pub Each-at : (xs : List X) (k : ℕ) (d : X) → Each Q xs → k < length xs → Q (get_or xs k d)
  Each-at [] k d h within = absurd (omega (arith, within))
  Each-at (x ∷ xs) zero d h within = h.0
  Each-at (x ∷ xs) (suc k) d h within = Each-at xs k d h.1 (omega (arith, within))

  -- from facts of places
  pub Each-take_from : (xs : List X) (n : ℕ) → ((k : ℕ) (d : X) → k < n → k < length xs → Q (get_or xs k d)) → Each Q (take n xs)
  Each-take_from xs zero h = tt
  Each-take_from [] (suc n) h = tt
  Each-take_from (x ∷ xs) (suc n) h = (h 0 x (omega arith) (omega arith), Each-take_from xs n (λ k d few within. h (suc k) d (omega (arith, few)) (omega (arith, within))))

  pub Each-drop_from : (xs : List X) (n : ℕ) → ((k : ℕ) (d : X) → n ≤ k → k < length xs → Q (get_or xs k d)) → Each Q (drop n xs)
  Each-drop_from [] zero h = tt
  Each-drop_from [] (suc n) h = tt
  Each-drop_from (x ∷ xs) zero h = (h 0 x (omega arith) (omega arith), Each-drop_from xs zero (λ k d more within. h (suc k) d (omega arith) (omega (arith, within))))
  Each-drop_from (x ∷ xs) (suc n) h = Each-drop_from xs n (λ k d more within. h (suc k) d (omega (arith, more)) (omega (arith, within)))

pub not_le : (n t : ℕ) → nat_le n t ≡ false → t < n
not_le n t fails =
    elim (cases_lt t n) as (λ _. t < n) [
      | inl less ↦ less
      | inr more ↦ absurd (conflict (nat_le n t) (le-leb n t more) fails)
    ]
  where
    conflict : (b : Bool) → b ≡ true → b ≡ false → ⊥
    conflict b one other = let both : true ≡ false = sym one ∙ other in cc

module _ {P : Type 0} where
  pub times_until : (t : ℕ) (xs : List (Event P)) (k : ℕ) → AllWithin (λ x. nat_le x.time t ≡ true) xs 0 k → Each (λ x. x.time ≤ t) (take k xs)
  times_until t xs k h = Each-take_from (λ x. x.time ≤ t) xs k (λ j d few within. leb-true (get_or xs j d).time t (h j d (omega arith) few))

  pub times_behind : (t : ℕ) (xs : List (Event P)) (k : ℕ) → AllWithin (λ x. nat_le x.time t ≡ false) xs k (length xs) → AreFrom (suc t) (drop k xs)
  times_behind t xs k h = Each-drop_from (λ x. suc t ≤ x.time) xs k (λ j d more within. let late = not_le (get_or xs j d).time t (h j d more within) in omega (arith, late))

  -- no more are at or before a time than those in front of events that are all later
  pub count_within : (t k m : ℕ) (xs : List (Event P)) → k ≤ length xs → Each (λ x. x.time ≤ t) (take k xs) → AreFrom (suc t) (drop m xs) → k ≤ m
  count_within t zero m xs within before behind = omega arith
  count_within t (suc k) zero [] within before behind = absurd (omega (arith, within))
  count_within t (suc k) zero (x ∷ xs) within before behind = let soon = before.0 in let late = behind.0 in absurd (omega (arith, soon, late))
  count_within t (suc k) (suc m) [] within before behind = absurd (omega (arith, within))
  count_within t (suc k) (suc m) (x ∷ xs) within before behind = let rest = count_within t k m xs (omega (arith, within)) before.1 behind in omega (arith, rest)

module _ {P : Type 0} (words : P → List ℕ) where
  pub in_order_at : (xs : List (Event P)) (i j : ℕ) (d : Event P) → IsInOrder words xs → i ≤ j → j < length xs → precedes words (get_or xs i d) (get_or xs j d) ≡ true
  in_order_at [] i j d h few within = absurd (omega (arith, within))
  in_order_at (x ∷ xs) zero zero d h few within = precedes_self words x
  in_order_at (x ∷ xs) zero (suc j) d h few within = Each-at (λ y. precedes words x y ≡ true) xs j d h.0 (omega (arith, within))
  in_order_at (x ∷ xs) (suc i) zero d h few within = absurd (omega (arith, few))
  in_order_at (x ∷ xs) (suc i) (suc j) d h few within = in_order_at xs i j d h.1 (omega (arith, few)) (omega (arith, within))

  pub partitioned : (e : Event P) (xs : List (Event P)) → IsInOrder words xs → IsPartitionedBy (λ x. not (precedes words e x)) xs
  partitioned e xs h i j d few within passes =
      elim (cases_Bool (precedes words e (get_or xs i d))) as (λ _. not (precedes words e (get_or xs i d)) ≡ true) [
        | inr fails ↦ ap not fails
        | inl holds ↦ (let there = ap not (precedes_trans words e (get_or xs i d) (get_or xs j d) holds (in_order_at xs i j d h few within)) in cc)
      ]

  pub times_partitioned : (t : ℕ) (xs : List (Event P)) → IsInOrder words xs → IsPartitionedBy (λ x. nat_le x.time t) xs
  times_partitioned t xs h i j d few within passes =
      let up = precedes_time words (get_or xs i d) (get_or xs j d) (in_order_at xs i j d h few within) in
      let soon = leb-true (get_or xs j d).time t passes in
      le-leb (get_or xs i d).time t (omega (arith, up, soon))

  -- a list in order with an event at its place
  pub in_order_middle : (xs : List (Event P)) (e : Event P) (ys : List (Event P)) → IsInOrder words (xs ++ ys) → Each (λ x. precedes words e x ≡ false) xs → IsBefore words e ys → IsInOrder words (xs ++ e ∷ ys)
  in_order_middle [] e ys h before behind = (behind, h)
  in_order_middle (x ∷ xs) e ys h before behind = (middle xs h.0, in_order_middle xs e ys h.1 before.1 behind)
    where
      middle : (zs : List (Event P)) → IsBefore words x (zs ++ ys) → IsBefore words x (zs ++ e ∷ ys)
      middle [] first = (precedes_total words e x before.0, first)
      middle (z ∷ zs) first = (first.0, middle zs first.1)

  -- and without one
  pub in_order_without : (xs : List (Event P)) (n : ℕ) → IsInOrder words xs → IsInOrder words (remove xs n)
  in_order_without [] zero h = tt
  in_order_without [] (suc n) h = tt
  in_order_without (x ∷ xs) zero h = h.1
  in_order_without (x ∷ xs) (suc n) h = (Each-without (λ y. precedes words x y ≡ true) xs n h.0, in_order_without xs n h.1)
    where
      Each-without : (Q : Event P → Type 0) (ys : List (Event P)) (n : ℕ) → Each Q ys → Each Q (remove ys n)
      Each-without Q [] zero g = tt
      Each-without Q [] (suc n) g = tt
      Each-without Q (y ∷ ys) zero g = g.1
      Each-without Q (y ∷ ys) (suc n) g = (g.0, Each-without Q ys n g.1)

  module _ (tells : TellsApart words) where
    pub none_yet : (e : Event P) (xs : List (Event P)) (i : ℕ) (d : Event P) → i < length xs → (get_or xs i d ≡ e → ⊥) → copies words e (take i xs) ≡ 0 → copies words e (take (i + 1) xs) ≡ 0
    none_yet e xs i d within other h =
        let all = ap (copies words e) (take_more xs i d within) ∙ copies-append words e (take i xs) (get_or xs i d ∷ []) in
        elim (hit_cases words tells e (get_or xs i d)) as (λ _. copies words e (take (i + 1) xs) ≡ 0) [
          | inl same ↦ absurd (other (sym same))
          | inr none ↦ omega (arith, all, h, none)
        ]

    pub after_point : (e : Event P) (xs : List (Event P)) (i : ℕ) → AllWithin (λ x. not (precedes words e x) ≡ true) xs 0 i → Each (λ x. precedes words e x ≡ false) (take i xs)
    after_point e xs i h =
        Each-take_from (λ x. precedes words e x ≡ false) xs i (λ k d few within. is_not (precedes words e (get_or xs k d)) (h k d (omega arith) few))
      where
        is_not : (b : Bool) → not b ≡ true → b ≡ false
        is_not true h = cc
        is_not false h = refl

    pub from_point : (e : Event P) (xs : List (Event P)) (i : ℕ) → AllWithin (λ x. not (precedes words e x) ≡ false) xs i (length xs) → IsBefore words e (drop i xs)
    from_point e xs i h =
        Each-drop_from (λ x. precedes words e x ≡ true) xs i (λ k d more within. is_so (precedes words e (get_or xs k d)) (h k d more within))
      where
        is_so : (b : Bool) → not b ≡ false → b ≡ true
        is_so true h = refl
        is_so false h = cc
