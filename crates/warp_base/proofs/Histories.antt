-- Below a bound there is one consistent family of histories.
use Rattle.std.proofs.Common.{◌≡◌, ℕ, zero, suc, ◌+◌, ◌<◌, ◌≤◌, inl, inr, Bool, true, false, nat_lt, List, [], ◌∷◌, ◌++◌, length, take, drop, refl, ap, sym, ◌∙◌, arith}
use Rattle.std.proofs.lemmas.List.{append-nil, take-append-drop}
use Rattle.std.proofs.lemmas.Bool.{cases_lt, cases_eq, lt-ltb, le-ltb}
use Rattle.warp_base.specs.declared.event.Event.{Event}
use Rattle.warp_base.specs.declared.event.Draft.{Draft}
use Rattle.warp_base.specs.Events.{Each, precedes, copies, IsBefore, IsInOrder, AreFor, AreFrom}
use Rattle.warp_base.specs.Histories.{Behaviour, stamped, sent_from, all_sent, LooksAhead, earlier, IsConsistent}
use Rattle.warp_base.proofs.Lists.{Each-weaker, filter_yes, filter-++, filter_none}
use Rattle.warp_base.proofs.Orders.{TellsApart, precedes_time, copies-append, in_order_filter, none_of, copies_kept, copies_left_out, one_order}
use Rattle.warp_base.proofs.Folds.{Each-stamped}

-- ---- the events before a time

module _ {P : Type 0} where
  abbrev is_earlier : ℕ → Event P → Bool
  is_earlier t e = nat_lt e.time t

  pub earlier_yes : (t : ℕ) (e : Event P) (es : List (Event P)) → e.time < t → earlier t (e ∷ es) ≡ e ∷ earlier t es
  earlier_yes t e es less = filter_yes (is_earlier t) e es (lt-ltb e.time t less)

  pub earlier-append : (t : ℕ) (xs ys : List (Event P)) → earlier t (xs ++ ys) ≡ earlier t xs ++ earlier t ys
  earlier-append t xs ys = filter-++ (is_earlier t) xs ys

  pub earlier_none : (t : ℕ) (es : List (Event P)) → AreFrom t es → earlier t es ≡ []
  earlier_none t es h = filter_none (is_earlier t) es (Each-weaker (λ (e : Event P). t ≤ e.time) (λ e. is_earlier t e ≡ false) (λ e more. le-ltb e.time t more) es h)

  pub AreFrom_zero : (es : List (Event P)) → AreFrom 0 es
  AreFrom_zero [] = tt
  AreFrom_zero (e ∷ es) = (omega arith, AreFrom_zero es)

  -- what is before a time is among the first events, if the others aren't
  pub earlier_front : (t n : ℕ) (es : List (Event P)) → AreFrom t (drop n es) → earlier t (take n es) ≡ earlier t es
  earlier_front t n es h =
      sym (append-nil (earlier t (take n es))) ∙ ap (λ l. earlier t (take n es) ++ l) (sym (earlier_none t (drop n es) h)) ∙ sym (earlier-append t (take n es) (drop n es)) ∙ ap (earlier t) (take-append-drop n es)

module _ {P : Type 0} (words : P → List ℕ) where
  -- behind an event that isn't before a time, none is
  pub from_behind : (t : ℕ) (x : Event P) (es : List (Event P)) → t ≤ x.time → IsBefore words x es → AreFrom t es
  from_behind t x es late h = Each-weaker (λ (e : Event P). precedes words x e ≡ true) (λ (e : Event P). t ≤ e.time) (λ e first. let up = precedes_time words x e first in omega (arith, late, up)) es h

  pub in_order_earlier : (t : ℕ) (es : List (Event P)) → IsInOrder words es → IsInOrder words (earlier t es)
  in_order_earlier t es h = in_order_filter words (is_earlier t) es h

  module _ (tells : TellsApart words) where
    pub copies_earlier : (t : ℕ) (e : Event P) (es : List (Event P)) → e.time < t → copies words e (earlier t es) ≡ copies words e es
    copies_earlier t e es less = copies_kept words tells (is_earlier t) e es (lt-ltb e.time t less)

    pub copies_not_earlier : (t : ℕ) (e : Event P) (es : List (Event P)) → t ≤ e.time → copies words e (earlier t es) ≡ 0
    copies_not_earlier t e es late = copies_left_out words tells (is_earlier t) e es (le-ltb e.time t late)

    -- an event that isn't for a process has no copies in its history
    pub none_for : (p : ℕ) (e : Event P) (es : List (Event P)) → (e.receiver ≡ p → ⊥) → AreFor p es → copies words e es ≡ 0
    none_for p e es other own = none_of words tells (λ (x : Event P). x.receiver ≡ p) e es own other

    -- an event at or before a time has no copies among those that are later
    pub none_later : (t : ℕ) (e : Event P) (es : List (Event P)) → e.time ≤ t → Each (λ (x : Event P). t < x.time) es → copies words e es ≡ 0
    none_later t e es soon h = none_of words tells (λ (x : Event P). t < x.time) e es h (λ late. omega (arith, soon, late))

-- ---- what is sent before a time

module _ {P : Type 0} (words : P → List ℕ) (tells : TellsApart words) {S : Type 0} (b : Behaviour P S) (ahead : LooksAhead b) where
  stamped_late : (e : Event P) (p n : ℕ) (s : S) (x : Event P) → e.time ≤ x.time → copies words e (stamped p n (b.drafts p s x)) ≡ 0
  stamped_late e p n s x soon =
      none_later words tells x.time e (stamped p n (b.drafts p s x)) soon (Each-stamped (λ (y : Event P). x.time < y.time) (λ (d : Draft P). x.time < d.time) p n (λ d m later. later) (b.drafts p s x) (ahead p s x))

  -- events behind one that isn't before a time send nothing for it
  sent_late : (e : Event P) (t p n : ℕ) (s : S) (es : List (Event P)) → e.time ≤ t → AreFrom t es → copies words e (sent_from b p n s es) ≡ 0
  sent_late e t p n s [] soon h = refl
  sent_late e t p n s (x ∷ xs) soon h =
      let m = n + length (b.drafts p s x) in
      let up = h.0 in
      let first = stamped_late e p n s x (omega (arith, soon, up)) in
      let rest = sent_late e t p m (b.after p s x) xs soon h.1 in
      let all = copies-append words e (stamped p n (b.drafts p s x)) (sent_from b p m (b.after p s x) xs) in
      omega (arith, first, rest, all)

  sent_earlier : (e : Event P) (t p n : ℕ) (s : S) (es : List (Event P)) → IsInOrder words es → e.time ≤ t → copies words e (sent_from b p n s es) ≡ copies words e (sent_from b p n s (earlier t es))
  sent_earlier e t p n s [] h soon = refl
  sent_earlier e t p n s (x ∷ xs) h soon =
      let first = stamped p n (b.drafts p s x) in
      let m = n + length (b.drafts p s x) in
      let s' = b.after p s x in
      elim (cases_lt x.time t) as (λ _. copies words e (sent_from b p n s (x ∷ xs)) ≡ copies words e (sent_from b p n s (earlier t (x ∷ xs)))) [
        | inl sooner ↦ (let is = ap (λ l. copies words e (sent_from b p n s l)) (earlier_yes t x xs sooner) in
            let rest = sent_earlier e t p m s' xs h.1 soon in
            let all = copies-append words e first (sent_from b p m s' xs) in
            let few = copies-append words e first (sent_from b p m s' (earlier t xs)) in
            omega (arith, is, rest, all, few))
        | inr later ↦ (let behind = from_behind words t x xs later h.0 in
            let is = ap (λ l. copies words e (sent_from b p n s l)) (earlier_none t (x ∷ xs) (later, behind)) in
            let none = sent_late e t p n s (x ∷ xs) soon (later, behind) in
            omega (arith, is, none))
      ]

  -- what is sent for a time is sent by the events before it
  pub all_sent_earlier : (e : Event P) (t p : ℕ) (es : List (Event P)) → IsInOrder words es → e.time ≤ t → copies words e (all_sent b p es) ≡ copies words e (all_sent b p (earlier t es))
  all_sent_earlier e t p es h soon =
      let n = length (b.firsts p) in
      let all = copies-append words e (stamped p 0 (b.firsts p)) (sent_from b p n (b.start p) es) in
      let few = copies-append words e (stamped p 0 (b.firsts p)) (sent_from b p n (b.start p) (earlier t es)) in
      let rest = sent_earlier e t p n (b.start p) es h soon in
      omega (arith, all, few, rest)

  pub consistent_below : (bound later : ℕ) (histories : ℕ → List (Event P)) → bound ≤ later → IsConsistent words b later histories → IsConsistent words b bound histories
  consistent_below bound later histories few h =
      record { in_order = h.in_order; own = h.own; balanced = λ e soon. h.balanced e (omega (arith, soon, few)) }

  -- by induction over time: what happens at a time was sent before it, and there the histories are one already
  one_history : (bound : ℕ) (one other : ℕ → List (Event P)) → IsConsistent words b bound one → IsConsistent words b bound other → (t : ℕ) → t ≤ bound → (p : ℕ) → earlier t (one p) ≡ earlier t (other p)
  one_history bound one other h g zero within p =
      earlier_none 0 (one p) (AreFrom_zero (one p)) ∙ sym (earlier_none 0 (other p) (AreFrom_zero (other p)))
  one_history bound one other h g (suc t) within p =
      one_order words tells (earlier (suc t) (one p)) (earlier (suc t) (other p)) (in_order_earlier words (suc t) (one p) (h.in_order p)) (in_order_earlier words (suc t) (other p) (g.in_order p))
      (λ e. elim (cases_lt e.time (suc t)) as (λ _. copies words e (earlier (suc t) (one p)) ≡ copies words e (earlier (suc t) (other p))) [
        | inr late ↦ (copies_not_earlier words tells (suc t) e (one p) late ∙ sym (copies_not_earlier words tells (suc t) e (other p) late))
        | inl soon ↦ elim (cases_eq e.receiver p) as (λ _. copies words e (earlier (suc t) (one p)) ≡ copies words e (earlier (suc t) (other p))) [
          | inr away ↦ (copies_earlier words tells (suc t) e (one p) soon ∙ none_for words tells p e (one p) away (h.own p) ∙ sym (copies_earlier words tells (suc t) e (other p) soon ∙ none_for words tells p e (other p) away (g.own p)))
          | inl here ↦ (
              let q = e.sender in
              let here_one = copies_earlier words tells (suc t) e (one p) soon ∙ ap (λ r. copies words e (one r)) (sym here) ∙ h.balanced e (omega (arith, soon, within)) ∙ all_sent_earlier e t q (one q) (h.in_order q) (omega (arith, soon)) in
              let here_other = copies_earlier words tells (suc t) e (other p) soon ∙ ap (λ r. copies words e (other r)) (sym here) ∙ g.balanced e (omega (arith, soon, within)) ∙ all_sent_earlier e t q (other q) (g.in_order q) (omega (arith, soon)) in
              here_one ∙ ap (λ l. copies words e (all_sent b q l)) (one_history bound one other h g t (omega (arith, within)) q) ∙ sym here_other)
        ]
      ])

  pub history_is_one : (bound : ℕ) (one other : ℕ → List (Event P)) → IsConsistent words b bound one → IsConsistent words b bound other → (p : ℕ) → earlier bound (one p) ≡ earlier bound (other p)
  history_is_one bound one other h g p = one_history bound one other h g bound (omega arith) p
