-- Where a family of histories is consistent up to an end, the run in order to that end is over after finitely many steps.
use Rattle.std.proofs.Common.{◌≡◌, ℕ, zero, suc, ◌+◌, ◌<◌, ◌≤◌, ◌⊎◌, inl, inr, true, cond, List, [], ◌∷◌, ◌++◌, length, refl, ap, sym, subst, ◌∙◌, arith, length-append}
use Rattle.std.proofs.lemmas.Bool.{cases_lt, cases_eq, le-leb}
use Rattle.warp_base.specs.declared.event.Event.{Event}
use Rattle.warp_base.specs.Events.{Each, precedes, hit, copies, IsInOrder}
use Rattle.warp_base.specs.Histories.{Behaviour, all_sent, LooksAhead, StartsWithin, IsConsistent}
use Rattle.warp_base.specs.Sequential.{Run, after_event, step_with, sequential, IsOver, those_for}
use Rattle.warp_base.proofs.Lists.{Each-weaker}
use Rattle.warp_base.proofs.Orders.{TellsApart, precedes_time, hit_self, hit_cases, none_of, copies-append, in_order_front, in_order_back}
use Rattle.warp_base.proofs.Histories.{from_behind, all_sent_earlier, consistent_below, history_is_one}
use Rattle.warp_base.proofs.Queues.{fronts_before}
use Rattle.warp_base.proofs.Sequential.{IsSound, copies_those, those_own, in_order_those, sequential_sound, step_stops}

-- ---- a list that has no more copies of any event than another is no longer

module _ {P : Type 0} (words : P → List ℕ) (tells : TellsApart words) where
  record Without (x : Event P) (ys : List (Event P)) : Type 0 where
    rest : List (Event P)
    counts : (k : Event P) → copies words k rest + hit words k x ≡ copies words k ys
    lengths : suc (length rest) ≡ length ys

  without : (x : Event P) (ys : List (Event P)) → 0 < copies words x ys → Without x ys
  without x [] some = absurd (omega (arith, some))
  without x (y ∷ ys) some =
      elim (hit_cases words tells x y) as (λ _. Without x (y ∷ ys)) [
        | inl is ↦ record { rest = ys; counts = λ k. let same = ap (hit words k) is in omega (arith, same); lengths = refl }
        | inr none ↦ (let less = without x ys (omega (arith, some, none)) in record { rest = y ∷ less.rest; counts = λ k. let all = less.counts k in omega (arith, all); lengths = ap suc less.lengths })
      ]

  no_longer : (xs ys : List (Event P)) → ((k : Event P) → copies words k xs ≤ copies words k ys) → length xs ≤ length ys
  no_longer [] ys h = omega arith
  no_longer (x ∷ xs) ys h =
      let one = hit_self words x in
      let here = h x in
      let less = without x ys (omega (arith, one, here)) in
      let few = no_longer xs less.rest (λ k. let all = h k in let parts = less.counts k in omega (arith, all, parts)) in
      let long = less.lengths in
      omega (arith, few, long)

-- all events of processes 0 to n - 1
all_of : {P : Type 0} → (ℕ → List (Event P)) → ℕ → List (Event P)
all_of histories zero = []
all_of histories (suc n) = histories n ++ all_of histories n

copies-all_of : {P : Type 0} (words : P → List ℕ) (histories : ℕ → List (Event P)) (k : Event P) (p n : ℕ) → p < n → copies words k (histories p) ≤ copies words k (all_of histories n)
unfolding all_of
copies-all_of words histories k p zero less = absurd (omega (arith, less))
copies-all_of words histories k p (suc n) less =
    let all = copies-append words k (histories n) (all_of histories n) in
    elim (cases_eq p n) as (λ _. copies words k (histories p) ≤ copies words k (all_of histories (suc n))) [
      | inl is ↦ (let same = ap (λ q. copies words k (histories q)) is in omega (arith, all, same))
      | inr other ↦ (let rest = copies-all_of words histories k p n (omega (arith, less, other)) in omega (arith, all, rest))
    ]

module _ {P : Type 0} (words : P → List ℕ) (tells : TellsApart words) {S : Type 0} (b : Behaviour P S) (ahead : LooksAhead b) (n end : ℕ) (histories : ℕ → List (Event P)) (starts : StartsWithin n b) (consistent : IsConsistent words b (suc end) histories) (beyond : (p : ℕ) → n ≤ p → histories p ≡ []) where
  -- until it is over, a run in order has run only what the histories have
  ran_there : (r : Run P S) (x : Event P) (queue : List (Event P)) → IsSound words tells b r → r.queue ≡ x ∷ queue → x.time ≤ end → (k : Event P) → copies words k r.ran ≤ copies words k (histories k.receiver)
  ran_there r x queue h is soon k =
      let those = λ (p : ℕ). those_for p r.ran in
      let order = subst (λ l. IsInOrder words (r.ran ++ l)) is h.in_order in
      let rest = in_order_back words r.ran (x ∷ queue) order in
      let partly : IsConsistent words b x.time those = record {
        in_order = λ p. in_order_those words tells p r.ran (in_order_front words r.ran r.queue h.in_order);
        own = λ p. those_own p r.ran;
        balanced = λ e less.
            let here = copies_those words tells e r.ran in
            let all = h.follows.sent e in
            let whole = ap (copies words e) is in
            let none = none_of words tells (λ (y : Event P). x.time ≤ y.time) e (x ∷ queue) (omega arith, from_behind words x.time x queue (omega arith) rest.0) (λ late. omega (arith, less, late)) in
            omega (arith, here, all, whole, none);
      } in
      let wholly = consistent_below words tells b ahead x.time (suc end) histories (omega (arith, soon)) consistent in
      elim (cases_lt x.time k.time) as (λ _. copies words k r.ran ≤ copies words k (histories k.receiver)) [
        | inl late ↦ (let none = none_of words tells (λ (y : Event P). precedes words y x ≡ true) k r.ran (fronts_before words r.ran queue x order) (λ first. let up = precedes_time words k x first in omega (arith, up, late)) in omega (arith, none))
        | inr early ↦ (
            let q = k.sender in
            let all = h.follows.sent k in
            let mine = all_sent_earlier words tells b ahead k x.time q (those q) (partly.in_order q) early in
            let theirs = all_sent_earlier words tells b ahead k x.time q (histories q) (consistent.in_order q) early in
            let same = ap (λ l. copies words k (all_sent b q l)) (history_is_one words tells b ahead x.time those histories partly wholly q) in
            let there = consistent.balanced k (omega (arith, early, soon)) in
            omega (arith, all, mine, theirs, same, there))
      ]

  at_most : (r : Run P S) (x : Event P) (queue : List (Event P)) → IsSound words tells b r → r.queue ≡ x ∷ queue → x.time ≤ end → length r.ran ≤ length (all_of histories n)
  at_most r x queue h is soon =
      no_longer words tells r.ran (all_of histories n) (λ k.
      let there = ran_there r x queue h is soon k in
      elim (cases_lt k.receiver n) as (λ _. copies words k r.ran ≤ copies words k (all_of histories n)) [
        | inl less ↦ (let all = copies-all_of words histories k k.receiver n less in omega (arith, there, all))
        | inr more ↦ (let none = ap (copies words k) (beyond k.receiver more) in omega (arith, there, none))
      ])

  -- a queue whose first event is beyond the end is over
  over_from : (r : Run P S) (x : Event P) (queue : List (Event P)) → IsSound words tells b r → r.queue ≡ x ∷ queue → end < x.time → IsOver end r
  over_from r x queue h is late =
      let rest = in_order_back words r.ran (x ∷ queue) (subst (λ l. IsInOrder words (r.ran ++ l)) is h.in_order) in
      subst (Each (λ (e : Event P). end < e.time)) (sym is) (late, Each-weaker (λ (e : Event P). precedes words x e ≡ true) (λ (e : Event P). end < e.time) (λ e first. let up = precedes_time words x e first in omega (arith, late, up)) queue rest.0)

  over_or : (r : Run P S) (queue : List (Event P)) → IsSound words tells b r → r.queue ≡ queue → IsOver end r ⊎ (length (step_with words b end r queue).ran ≡ suc (length r.ran))
  over_or r [] h is = inl (subst (Each (λ (e : Event P). end < e.time)) (sym is) tt)
  over_or r (x ∷ queue) h is =
      elim (cases_lt end x.time) as (λ _. IsOver end r ⊎ (length (step_with words b end r (x ∷ queue)).ran ≡ suc (length r.ran))) [
        | inl late ↦ inl (over_from r x queue h is late)
        | inr soon ↦ inr (ap (λ t. length (cond t (after_event words b r x queue) r).ran) (le-leb x.time end soon) ∙ (let all = length-append r.ran (x ∷ []) in omega (arith, all)))
      ]

  progress : (steps : ℕ) → IsOver end (sequential words b n end steps) ⊎ (length (sequential words b n end steps).ran ≡ steps)
  progress zero = inr refl
  progress (suc steps) =
      let r = sequential words b n end steps in
      elim (progress steps) as (λ _. IsOver end (sequential words b n end (suc steps)) ⊎ (length (sequential words b n end (suc steps)).ran ≡ suc steps)) [
        | inl over ↦ inl (subst (λ (t : Run P S). IsOver end t) (sym (step_stops words b end r r.queue over)) over)
        | inr count ↦ elim (over_or r r.queue (sequential_sound words tells b ahead n end steps starts) refl) as (λ _. IsOver end (sequential words b n end (suc steps)) ⊎ (length (sequential words b n end (suc steps)).ran ≡ suc steps)) [
          | inl over ↦ inl (subst (λ (t : Run P S). IsOver end t) (sym (step_stops words b end r r.queue over)) over)
          | inr more ↦ inr (more ∙ ap suc count)
        ]
      ]

  last_step : (r : Run P S) (queue : List (Event P)) → IsSound words tells b r → r.queue ≡ queue → length (all_of histories n) < length r.ran → IsOver end r
  last_step r [] h is many = subst (Each (λ (e : Event P). end < e.time)) (sym is) tt
  last_step r (x ∷ queue) h is many =
      elim (cases_lt end x.time) as (λ _. IsOver end r) [
        | inl late ↦ over_from r x queue h is late
        | inr soon ↦ (let few = at_most r x queue h is soon in absurd (omega (arith, few, many)))
      ]

  -- one step more than the histories have events is enough
  pub ends : (steps : ℕ) × IsOver end (sequential words b n end steps)
  ends =
      let steps = suc (length (all_of histories n)) in
      let r = sequential words b n end steps in (
        steps,
        elim (progress steps) as (λ _. IsOver end r) [
          | inl over ↦ over
          | inr count ↦ last_step r r.queue (sequential_sound words tells b ahead n end steps starts) refl (omega (arith, count))
        ],
      )
