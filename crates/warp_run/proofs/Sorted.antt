-- What a heap holds, read in order, where an event is pushed or the most urgent one is popped.
use Rattle.std.proofs.Common.{◌≡◌, ℕ, ◌+◌, ◌<◌, Bool, true, false, List, [], ◌∷◌, length, map, refl, ap, sym, subst, ◌∙◌, arith, inl, inr, cond, get_or}
use Rattle.std.proofs.lemmas.Bool.{cases_Bool}
use Rattle.std.specs.List.{sum_by}
use Rattle.std.specs.List.Sorted.{IsPermutation}
use Rattle.std.proofs.lemmas.List.Sorted.{IsPermutation-map, sum_by-IsPermutation}
use Rattle.std.proofs.lemmas.List.Sums.{sum_by-cons}
use Rattle.std.specs.BinaryHeap.{IsUpperBound}
use Rattle.std.specs.Ordering.{is_lt}
use Rattle.warp_base.specs.declared.event.Event.{Event}
use Rattle.warp_base.specs.Events.{Each, precedes, hit, copies, IsBefore, IsInOrder}
use Rattle.warp_base.specs.Sequential.{queued, all_queued}
use Rattle.warp_base.proofs.Lists.{Each-weaker}
use Rattle.warp_base.proofs.Orders.{TellsApart, one_order, precedes_time}
use Rattle.warp_base.proofs.Queues.{copies-queued, copies-all_queued, in_order_all_queued}
use Rattle.warp_run.specs.Queues.{sorted}
use Rattle.warp_run.specs.Urgency.{urgency, order_of}

module _ {P : Type 0} (words : P → List ℕ) where
  copies_sum : (k : Event P) (xs : List (Event P)) → copies words k xs ≡ sum_by (hit words k) xs
  copies_sum k [] = refl
  copies_sum k (x ∷ xs) = ap (λ n. hit words k x + n) (copies_sum k xs) ∙ sym (sum_by-cons (hit words k) x xs)

  copies_moved : (k : Event P) (xs ys : List (Event P)) → IsPermutation xs ys → copies words k ys ≡ copies words k xs
  copies_moved k xs ys moved = copies_sum k ys ∙ sum_by-IsPermutation (hit words k) xs ys moved ∙ sym (copies_sum k xs)

  copies_sorted : (k : Event P) (xs : List (Event P)) → copies words k (sorted words xs) ≡ copies words k xs
  copies_sorted k xs = let is = copies-all_queued words k xs [] in omega (arith, is)

  sorted_in_order : (xs : List (Event P)) → IsInOrder words (sorted words xs)
  sorted_in_order xs = in_order_all_queued words xs [] tt

  Each-queued : (Q : Event P → Type 0) (e : Event P) (xs : List (Event P)) → Q e → Each Q xs → Each Q (queued words e xs)
  Each-queued Q e [] first h = (first, tt)
  Each-queued Q e (x ∷ xs) first h =
      elim (cases_Bool (precedes words e x)) as (λ _. Each Q (queued words e (x ∷ xs))) [
        | inl holds ↦ subst (Each Q) (sym (ap (λ b. cond b (e ∷ x ∷ xs) (x ∷ queued words e xs)) holds)) (first, h)
        | inr fails ↦ subst (Each Q) (sym (ap (λ b. cond b (e ∷ x ∷ xs) (x ∷ queued words e xs)) fails)) (h.0, Each-queued Q e xs first h.1)
      ]

  pub Each-all_queued : (Q : Event P → Type 0) (es xs : List (Event P)) → Each Q es → Each Q xs → Each Q (all_queued words es xs)
  Each-all_queued Q [] xs all h = h
  Each-all_queued Q (e ∷ es) xs all h = Each-all_queued Q es (queued words e xs) all.1 (Each-queued Q e xs all.0 h)

  -- an event that no other is more urgent than is before those that are left
  not_before : (first back : Bool) → is_lt (order_of first back) ≡ false → first ≡ true
  not_before true back h = refl
  not_before false back h = let no : true ≡ false = h in absurd cc

  upper_before : {X : Type 0} (event : X → Event P) (x : X) (xs : List X) → IsUpperBound (λ a b. urgency words (event a) (event b)) x xs → IsBefore words (event x) (map event xs)
  upper_before event x [] h = tt
  upper_before event x (y ∷ ys) h = (not_before (precedes words (event x) (event y)) (precedes words (event y) (event x)) h.0, upper_before event x ys h.1)

  module _ (tells : TellsApart words) {X : Type 0} (event : X → Event P) where
    pub pushed : (x : X) (xs ys : List X) → IsPermutation (x ∷ xs) ys → sorted words (map event ys) ≡ queued words (event x) (sorted words (map event xs))
    pushed x xs ys moved =
        one_order words tells (sorted words (map event ys)) (queued words (event x) (sorted words (map event xs))) (sorted_in_order (map event ys)) (in_order_all_queued words (event x ∷ []) (sorted words (map event xs)) (sorted_in_order (map event xs)))
        (λ k. let now = copies_sorted k (map event ys) in
        let same = copies_moved k (map event (x ∷ xs)) (map event ys) (IsPermutation-map event (x ∷ xs) ys moved) in
        let one = copies-queued words k (event x) (sorted words (map event xs)) in
        let old = copies_sorted k (map event xs) in
        omega (arith, now, same, one, old))

    pub popped : (x : X) (xs ys : List X) → IsPermutation xs (x ∷ ys) → IsUpperBound (λ a b. urgency words (event a) (event b)) x ys → sorted words (map event xs) ≡ event x ∷ sorted words (map event ys)
    popped x xs ys moved top =
        one_order words tells (sorted words (map event xs)) (event x ∷ sorted words (map event ys)) (sorted_in_order (map event xs)) (Each-all_queued (λ y. precedes words (event x) y ≡ true) (map event ys) [] (upper_before event x ys top) tt, sorted_in_order (map event ys))
        (λ k. let old = copies_sorted k (map event xs) in
        let same = copies_moved k (map event xs) (map event (x ∷ ys)) (IsPermutation-map event xs (x ∷ ys) moved) in
        let now = copies_sorted k (map event ys) in
        omega (arith, now, same, old))

    -- where the most urgent event is later than a time, each is
    pub none_until : (end : ℕ) (x : X) (xs : List X) → IsUpperBound (λ a b. urgency words (event a) (event b)) x xs → end < (event x).time → Each (λ (e : Event P). end < e.time) (sorted words (map event xs))
    none_until end x xs top late =
        Each-all_queued (λ (e : Event P). end < e.time) (map event xs) [] (Each-weaker (λ (e : Event P). precedes words (event x) e ≡ true) (λ (e : Event P). end < e.time) (λ e first. let up = precedes_time words (event x) e first in omega (arith, up, late)) (map event xs) (upper_before event x xs top)) tt

-- what is read twice at the front of a list that has one is one
pub front_is_one : {X : Type 0} (x y : X) (xs : List X) → 0 < length xs → x ≡ get_or xs 0 x → y ≡ get_or xs 0 y → x ≡ y
front_is_one x y [] some first second = absurd (omega (arith, some))
front_is_one x y (z ∷ zs) some first second = first ∙ sym second
