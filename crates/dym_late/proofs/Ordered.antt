-- The order of any events, and what one arrival more changes.
use Rattle.std.proofs.Common.{◌≡◌, ℕ, ◌<◌, ◌≤◌, inl, inr, Bool, true, false, cond, nat_lt, max, List, [], ◌∷◌, ◌++◌, length, get_or, take, insert, Some, None, IsSome, refl, ap, sym, subst, ◌∙◌, arith, append_assoc, length-append}
use Rattle.std.proofs.lemmas.Bool.{cases_lt, lt-ltb, le-ltb}
use Rattle.std.proofs.lemmas.List.{append-nil}
use Rattle.std.proofs.lemmas.Option.{same_Some, none-some, slice_get-get_or}
use Rattle.std.proofs.Math.ListN.{drop_of_length-le}
use Rattle.dym_base.specs.LateRun.{LateEvent, Arrival, event, commit, bound_after, accepted_after, order, events_to, place_of, place_of_first}
use Rattle.dym_late.specs.Laws.{ComesBefore, StandInOrder, AddUp}
use Rattle.dym_late.specs.Orders.{no_event, event_at, rank, IsOrder}
use Rattle.dym_late.proofs.Counts.{before_yes, before_no, length_order}
use Rattle.dym_late.proofs.Places.{order_grows, old_event, new_event, old_rank, new_rank, place_is}
use Rattle.dym_late.proofs.Accepts.{no_order}

-- spots follow the order

abbrev Follow : List LateEvent → Type 0
Follow events = (i j : ℕ) → i < length events → j < length events → ComesBefore events i j → rank events i < rank events j

-- the numbers of events in order, which name places as they should
record Ordered (events : List LateEvent) : Type 0 where
  numbers : List ℕ
  order : IsOrder events numbers
  follow : Follow events

module _ (events : List LateEvent) (e : LateEvent) (is : Ordered events) where
  abbrev more : List LateEvent
  more = events ++ e ∷ []

  abbrev n : ℕ
  n = length events

  abbrev time : ℕ → ℕ
  time k = (event_at events k).time

  same_time : (k : ℕ) → k < n → (event_at more k).time ≡ time k
  same_time k within = ap (λ (x : LateEvent). x.time) (old_event events e k within)

  last_time : (event_at more n).time ≡ e.time
  last_time = ap (λ (x : LateEvent). x.time) (new_event events e)

  at_rank : (k : ℕ) → k < n → (event_at events (get_or is.numbers (rank events k) 0)).time ≡ time k
  at_rank k within = ap time (is.order.at_rank k within)

  abbrev Goal : ℕ → ℕ → Type 0
  Goal i j = rank more i < rank more j

  both_old : (i j : ℕ) → i < n → j < n → ComesBefore events i j → Goal i j
  both_old i j in_i in_j first =
      let before = is.follow i j in_i in_j first in
      let a = old_rank events e i in_i in
      let b = old_rank events e j in_j in
      let low : time i ≤ time j = elim first as (λ _. time i ≤ time j) [ inl less ↦ omega (arith, less) | inr same ↦ omega (arith, same.0) ] in
      elim (cases_lt e.time (time i)) as (λ _. Goal i j) [
        | inl sooner ↦ (let c = before_yes (time i) e sooner in let d = before_yes (time j) e (omega (arith, sooner, low)) in omega (arith, a, b, c, d, before))
        | inr later ↦ (let c = before_no (time i) e later in omega (arith, a, b, c, before))
      ]

  new_last : (i : ℕ) → i < n → time i ≤ e.time → Goal i n
  new_last i in_i low =
      let a = old_rank events e i in_i in
      let c = before_no (time i) e low in
      let b = new_rank events e in
      let there = at_rank i in_i in
      elim (cases_lt (rank events i) (events_to e.time events)) as (λ _. Goal i n) [
        | inl less ↦ omega (arith, a, b, c, less)
        | inr past ↦ (let late = is.order.late (rank events i) e.time past (is.order.within i in_i) in absurd (omega (arith, late, there, low)))
      ]

  new_first : (j : ℕ) → j < n → e.time < time j → Goal n j
  new_first j in_j high =
      let a = old_rank events e j in_j in
      let c = before_yes (time j) e high in
      let b = new_rank events e in
      let there = at_rank j in_j in
      elim (cases_lt (rank events j) (events_to e.time events)) as (λ _. Goal n j) [
        | inl less ↦ (let early = is.order.early (rank events j) e.time less in absurd (omega (arith, early, there, high)))
        | inr past ↦ omega (arith, a, b, c, past)
      ]

  old_first : (i j : ℕ) → i < n → j < n → ComesBefore more i j → ComesBefore events i j
  old_first i j in_i in_j first =
      let a = same_time i in_i in
      let b = same_time j in_j in
      elim first as (λ _. ComesBefore events i j) [ inl less ↦ inl (omega (arith, a, b, less)) | inr same ↦ inr (sym a ∙ same.0 ∙ b, same.1) ]

  follows : Follow more
  follows i j in_i in_j first =
      let size = length-append events (e ∷ []) in
      elim (cases_lt i n) as (λ _. Goal i j) [
        | inl old_i ↦ (elim (cases_lt j n) as (λ _. Goal i j) [
          | inl old_j ↦ both_old i j old_i old_j (old_first i j old_i old_j first)
          | inr last_j ↦ (
              let is_n : j ≡ n = omega (arith, size, in_j, last_j) in
              let a = same_time i old_i in
              let b = ap (λ k. (event_at more k).time) is_n ∙ last_time in
              let low : time i ≤ e.time = elim first as (λ _. time i ≤ e.time) [ inl less ↦ omega (arith, a, b, less) | inr same ↦ omega (arith, a, b, same.0) ] in
              subst (Goal i) (sym is_n) (new_last i old_i low))
        ])
        | inr last_i ↦ (
            let is_n : i ≡ n = omega (arith, size, in_i, last_i) in
            let b = ap (λ k. (event_at more k).time) is_n ∙ last_time in
            elim (cases_lt j n) as (λ _. Goal i j) [
              | inl old_j ↦ (
                  let a = same_time j old_j in
                  let high : e.time < time j = elim first as (λ _. e.time < time j) [ inl less ↦ omega (arith, a, b, less) | inr same ↦ absurd (omega (arith, same.1, last_i, old_j)) ] in
                  subst (λ k. Goal k j) (sym is_n) (new_first j old_j high))
              | inr last_j ↦ (
                  let same_n : j ≡ n = omega (arith, size, in_j, last_j) in
                  let c = ap (λ k. (event_at more k).time) same_n ∙ last_time in
                  absurd (elim first as (λ _. ⊥) [ inl less ↦ omega (arith, b, c, less) | inr same ↦ omega (arith, same.1, is_n, same_n) ]))
            ])
      ]

  grown : Ordered more
  grown = record { numbers = insert is.numbers (events_to e.time events) n; order = order_grows events e is.numbers is.order; follow = follows }

ordered_onto : (before es : List LateEvent) → Ordered before → Ordered (before ++ es)
ordered_onto before [] is = subst Ordered (sym (append-nil before)) is
ordered_onto before (e ∷ es) is = subst Ordered (append_assoc before (e ∷ []) es) (ordered_onto (before ++ e ∷ []) es (grown before e is))

ordered : (events : List LateEvent) → Ordered events
ordered events = ordered_onto [] events (record { numbers = []; order = no_order; follow = λ i j within _ _. absurd (omega (arith, within)) })

-- a place that an event has is its rank
at_place : (events : List LateEvent) (k p : ℕ) → place_of events k ≡ Some p → (k < length events) × (rank events k ≡ p)
at_place events k p is = elim (cases_lt k (length events)) as (λ _. (k < length events) × (rank events k ≡ p)) [
  | inl within ↦ (within, same_Some (rank events k) p (sym (place_is events k within) ∙ is))
  | inr past ↦ (
      let none : place_of events k ≡ None = ap (place_of_first (take k events)) (drop_of_length-le events {i = k} past) in
      absurd (none-some p (sym none ∙ is)))
]

pub stand_in_order : (events : List LateEvent) → StandInOrder events
stand_in_order events =
    let all = ordered events in
    record {
      count = length_order events;
      has_place = λ k within. subst IsSome (sym (place_is events k within)) refl;
      stands = λ k p is. (
          let at = at_place events k p is in
          let count = length_order events in
          let fits = all.order.within k at.0 in
          let same = at.1 in
          let event = ap (event_at (order events)) (sym same) ∙ all.order.event (rank events k) fits ∙ ap (event_at events) (all.order.at_rank k at.0) in
          slice_get-get_or (order events) p no_event (omega (arith, same, fits, count)) ∙ ap Some event ∙ sym (slice_get-get_or events k no_event at.0));
      before = λ i j p q is_p is_q first. (
          let at_i = at_place events i p is_p in
          let at_j = at_place events j q is_q in
          let less = all.follow i j at_i.0 at_j.0 first in
          let same_p = at_i.1 in
          let same_q = at_j.1 in
          omega (arith, less, same_p, same_q));
    }

-- one arrival more

cond_push : (b : Bool) (xs ys : List LateEvent) (e : LateEvent) → cond b (xs ++ e ∷ []) (ys ++ e ∷ []) ≡ cond b xs ys ++ e ∷ []
cond_push true xs ys e = refl
cond_push false xs ys e = refl

in_time_after : (bound : ℕ) (arrivals : List Arrival) (e : LateEvent) → bound_after bound arrivals ≤ e.time → accepted_after bound (arrivals ++ event e ∷ []) ≡ accepted_after bound arrivals ++ e ∷ []
in_time_after bound [] e late = ap {B = List LateEvent} (λ b. cond b [] (e ∷ [])) (le-ltb e.time bound late)
in_time_after bound (event f ∷ more) e late =
    ap (λ l. cond (nat_lt f.time bound) l (f ∷ l)) (in_time_after bound more e late) ∙ cond_push (nat_lt f.time bound) (accepted_after bound more) (f ∷ accepted_after bound more) e
in_time_after bound (commit t ∷ more) e late = in_time_after (max bound t) more e late

too_early_after : (bound : ℕ) (arrivals : List Arrival) (e : LateEvent) → e.time < bound_after bound arrivals → accepted_after bound (arrivals ++ event e ∷ []) ≡ accepted_after bound arrivals
too_early_after bound [] e early = ap {B = List LateEvent} (λ b. cond b [] (e ∷ [])) (lt-ltb e.time bound early)
too_early_after bound (event f ∷ more) e early = ap (λ l. cond (nat_lt f.time bound) l (f ∷ l)) (too_early_after bound more e early)
too_early_after bound (commit t ∷ more) e early = too_early_after (max bound t) more e early

committed_after : (bound : ℕ) (arrivals : List Arrival) (t : ℕ) → accepted_after bound (arrivals ++ commit t ∷ []) ≡ accepted_after bound arrivals
committed_after bound [] t = refl
committed_after bound (event f ∷ more) t = ap (λ l. cond (nat_lt f.time bound) l (f ∷ l)) (committed_after bound more t)
committed_after bound (commit u ∷ more) t = committed_after (max bound u) more t

event_bound_after : (bound : ℕ) (arrivals : List Arrival) (e : LateEvent) → bound_after bound (arrivals ++ event e ∷ []) ≡ bound_after bound arrivals
event_bound_after bound [] e = refl
event_bound_after bound (event f ∷ more) e = event_bound_after bound more e
event_bound_after bound (commit t ∷ more) e = event_bound_after (max bound t) more e

commit_bound_after : (bound : ℕ) (arrivals : List Arrival) (t : ℕ) → bound_after bound (arrivals ++ commit t ∷ []) ≡ max (bound_after bound arrivals) t
commit_bound_after bound [] t = refl
commit_bound_after bound (event f ∷ more) t = commit_bound_after bound more t
commit_bound_after bound (commit u ∷ more) t = commit_bound_after (max bound u) more t

pub add_up : (arrivals : List Arrival) → AddUp arrivals
add_up arrivals = record {
  in_time = in_time_after 0 arrivals;
  too_early = too_early_after 0 arrivals;
  event_bound = event_bound_after 0 arrivals;
  committed = committed_after 0 arrivals;
  commit_bound = commit_bound_after 0 arrivals;
}
