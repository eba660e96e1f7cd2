-- Queues in order: what an event more comes to, beside those that were run before.
use Rattle.std.proofs.Common.{◌≡◌, ℕ, ◌+◌, ◌<◌, inl, inr, true, false, cond, List, [], ◌∷◌, ◌++◌, refl, ap, arith}
use Rattle.std.proofs.lemmas.Bool.{cases_Bool}
use Rattle.warp_base.specs.declared.event.Event.{Event}
use Rattle.warp_base.specs.Events.{Each, precedes, hit, copies, IsBefore, IsInOrder}
use Rattle.warp_base.specs.Sequential.{queued, all_queued}
use Rattle.warp_base.proofs.Orders.{precedes_total, precedes_trans, precedes_later, before_trans}

module _ {P : Type 0} (words : P → List ℕ) where
  queued_here : (e x : Event P) (xs : List (Event P)) → precedes words e x ≡ true → queued words e (x ∷ xs) ≡ e ∷ x ∷ xs
  queued_here e x xs h = ap (λ b. cond b (e ∷ x ∷ xs) (x ∷ queued words e xs)) h

  queued_behind : (e x : Event P) (xs : List (Event P)) → precedes words e x ≡ false → queued words e (x ∷ xs) ≡ x ∷ queued words e xs
  queued_behind e x xs h = ap (λ b. cond b (e ∷ x ∷ xs) (x ∷ queued words e xs)) h

  pub copies-queued : (k e : Event P) (xs : List (Event P)) → copies words k (queued words e xs) ≡ hit words k e + copies words k xs
  copies-queued k e [] = refl
  copies-queued k e (x ∷ xs) =
      let rest = copies-queued k e xs in
      elim (cases_Bool (precedes words e x)) as (λ _. copies words k (queued words e (x ∷ xs)) ≡ hit words k e + copies words k (x ∷ xs)) [
        | inl holds ↦ ap (copies words k) (queued_here e x xs holds)
        | inr fails ↦ (let is = ap (copies words k) (queued_behind e x xs fails) in omega (arith, is, rest))
      ]

  pub copies-all_queued : (k : Event P) (es xs : List (Event P)) → copies words k (all_queued words es xs) ≡ copies words k es + copies words k xs
  copies-all_queued k [] xs = omega arith
  copies-all_queued k (e ∷ es) xs =
      let rest = copies-all_queued k es (queued words e xs) in
      let one = copies-queued k e xs in
      omega (arith, rest, one)

  Each-queued : (Q : Event P → Type 0) (e : Event P) (xs : List (Event P)) → Q e → Each Q xs → Each Q (queued words e xs)
  Each-queued Q e [] first h = (first, tt)
  Each-queued Q e (x ∷ xs) first h =
      elim (cases_Bool (precedes words e x)) as (λ _. Each Q (queued words e (x ∷ xs))) [
        | inl holds ↦ rw (queued_here e x xs holds) (first, h)
        | inr fails ↦ rw (queued_behind e x xs fails) (h.0, Each-queued Q e xs first h.1)
      ]

  in_order_queued : (e : Event P) (xs : List (Event P)) → IsInOrder words xs → IsInOrder words (queued words e xs)
  in_order_queued e [] h = (tt, tt)
  in_order_queued e (x ∷ xs) h =
      elim (cases_Bool (precedes words e x)) as (λ _. IsInOrder words (queued words e (x ∷ xs))) [
        | inl holds ↦ rw (queued_here e x xs holds) ((holds, before_trans words e x xs holds h.0), h)
        | inr fails ↦ rw (queued_behind e x xs fails) (Each-queued (λ y. precedes words x y ≡ true) e xs (precedes_total words e x fails) h.0, in_order_queued e xs h.1)
      ]

  pub in_order_all_queued : (es xs : List (Event P)) → IsInOrder words xs → IsInOrder words (all_queued words es xs)
  in_order_all_queued [] xs h = h
  in_order_all_queued (e ∷ es) xs h = in_order_all_queued es (queued words e xs) (in_order_queued e xs h)

  -- each of these is at or before an event
  abbrev pub AreBefore : List (Event P) → Event P → Type 0
  AreBefore xs e = Each (λ x. precedes words x e ≡ true) xs

  before_both : (x e : Event P) (xs queue : List (Event P)) → precedes words x e ≡ true → IsBefore words x (xs ++ queue) → IsBefore words x (xs ++ queued words e queue)
  before_both x e [] queue first h = Each-queued (λ y. precedes words x y ≡ true) e queue first h
  before_both x e (y ∷ ys) queue first h = (h.0, before_both x e ys queue first h.1)

  in_order_behind : (e : Event P) (xs queue : List (Event P)) → AreBefore xs e → IsInOrder words (xs ++ queue) → IsInOrder words (xs ++ queued words e queue)
  in_order_behind e [] queue before h = in_order_queued e queue h
  in_order_behind e (x ∷ xs) queue before h = (before_both x e xs queue before.0 h.0, in_order_behind e xs queue before.1 h.1)

  pub in_order_all_behind : (es xs queue : List (Event P)) → Each (AreBefore xs) es → IsInOrder words (xs ++ queue) → IsInOrder words (xs ++ all_queued words es queue)
  in_order_all_behind [] xs queue before h = h
  in_order_all_behind (e ∷ es) xs queue before h = in_order_all_behind es xs (queued words e queue) before.1 (in_order_behind e xs queue before.0 h)

  -- what stands in front of an event in a list in order is at or before it
  pub fronts_before : (xs queue : List (Event P)) (e : Event P) → IsInOrder words (xs ++ e ∷ queue) → AreBefore xs e
  fronts_before [] queue e h = tt
  fronts_before (x ∷ xs) queue e h = (middle x xs h.0, fronts_before xs queue e h.1)
    where
      middle : (x : Event P) (xs : List (Event P)) → IsBefore words x (xs ++ e ∷ queue) → precedes words x e ≡ true
      middle x [] before = before.0
      middle x (y ∷ ys) before = middle x ys before.1

  -- and so is the event itself, and all of that is before what is later than the event
  pub fronts_later : (xs queue : List (Event P)) (e later : Event P) → IsInOrder words (xs ++ e ∷ queue) → e.time < later.time → AreBefore (xs ++ e ∷ []) later
  fronts_later [] queue e later h less = (precedes_later words e later less, tt)
  fronts_later (x ∷ xs) queue e later h less =
      (precedes_trans words x e later (fronts_before (x ∷ xs) queue e h).0 (precedes_later words e later less), fronts_later xs queue e later h.1 less)
