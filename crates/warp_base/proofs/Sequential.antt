-- The run in order is sound: its states and what it sent are those of the histories that it has run, and a run that is over is a consistent
-- family of histories.
use Rattle.std.proofs.Common.{◌≡◌, ℕ, zero, suc, ◌+◌, ◌<◌, ◌≤◌, ◌⊎◌, inl, inr, Bool, cond, nat_le, nat_lt, ◌==◌, List, [], ◌∷◌, ◌++◌, length, take, refl, ap, sym, subst, ◌∙◌, arith, append_assoc, length-append}
use Rattle.std.proofs.lemmas.List.{append-nil}
use Rattle.std.proofs.lemmas.Bool.{cases_lt, cases_eq, cases_Bool, lt-ltb, le-ltb, eq-eqb, ne_eqb, le-leb, lt-leb, eqb-true}
use Rattle.warp_base.specs.declared.event.Event.{Event}
use Rattle.warp_base.specs.declared.event.Draft.{Draft}
use Rattle.warp_base.specs.Events.{Each, copies, IsInOrder, AreFor}
use Rattle.warp_base.specs.Histories.{Behaviour, stamp, stamped, state_after, all_sent, LooksAhead, StartsWithin, earlier, IsConsistent}
use Rattle.warp_base.specs.Sequential.{Run, all_queued, first_queue, first_run, after_event, step_with, sequential, IsOver, those_for}
use Rattle.warp_base.specs.Laws.{FollowsHistories}
use Rattle.warp_base.proofs.Lists.{Each-passed, filter_yes, filter_no, filter-++, filter_twice}
use Rattle.warp_base.proofs.Orders.{TellsApart, copies-append, none_of, copies_kept, in_order_filter, in_order_front}
use Rattle.warp_base.proofs.Folds.{length-stamped, Each-stamped, all_sent-push, state_after-push}
use Rattle.warp_base.proofs.Histories.{earlier_yes, earlier-append, none_later}
use Rattle.warp_base.proofs.Queues.{copies-all_queued, in_order_all_queued, AreBefore, in_order_all_behind, fronts_later}

-- ---- the events for a process

module _ {P : Type 0} where
  abbrev is_for : ℕ → Event P → Bool
  is_for p e = e.receiver == p

  pub those_own : (p : ℕ) (es : List (Event P)) → AreFor p (those_for p es)
  those_own p es = Each-passed (is_for p) (λ (e : Event P). e.receiver ≡ p) (λ e holds. eqb-true e.receiver p holds) es

  pub those_more : (p : ℕ) (es : List (Event P)) (e : Event P) → e.receiver ≡ p → those_for p (es ++ e ∷ []) ≡ those_for p es ++ e ∷ []
  those_more p es e is =
      filter-++ (is_for p) es (e ∷ []) ∙ ap (λ l. those_for p es ++ l) (filter_yes (is_for p) e [] (eq-eqb e.receiver p is))

  pub those_same : (p : ℕ) (es : List (Event P)) (e : Event P) → (e.receiver ≡ p → ⊥) → those_for p (es ++ e ∷ []) ≡ those_for p es
  those_same p es e other =
      filter-++ (is_for p) es (e ∷ []) ∙ ap (λ l. those_for p es ++ l) (filter_no (is_for p) e [] (ne_eqb e.receiver p other)) ∙ append-nil (those_for p es)

  pub earlier_those : (t p : ℕ) (es : List (Event P)) → earlier t (those_for p es) ≡ those_for p (earlier t es)
  earlier_those t p es = filter_twice (λ e. nat_lt e.time t) (is_for p) es

module _ {P : Type 0} (words : P → List ℕ) (tells : TellsApart words) where
  pub in_order_those : (p : ℕ) (es : List (Event P)) → IsInOrder words es → IsInOrder words (those_for p es)
  in_order_those p es h = in_order_filter words (is_for p) es h

  pub copies_those : (k : Event P) (es : List (Event P)) → copies words k (those_for k.receiver es) ≡ copies words k es
  copies_those k es = copies_kept words tells (is_for k.receiver) k es (eq-eqb k.receiver k.receiver refl)

-- ---- each step keeps this

module _ {P : Type 0} (words : P → List ℕ) (tells : TellsApart words) {S : Type 0} (b : Behaviour P S) where
  pub record IsSound (r : Run P S) : Type 0 where
    pub follows : FollowsHistories words S b r
    pub in_order : IsInOrder words (r.ran ++ r.queue)

  stamped_by : (k : Event P) (p n : ℕ) (ds : List (Draft P)) → (k.sender ≡ p → ⊥) → copies words k (stamped p n ds) ≡ 0
  stamped_by k p n ds other = none_of words tells (λ (x : Event P). x.sender ≡ p) k (stamped p n ds) (Each-stamped (λ (x : Event P). x.sender ≡ p) (λ (d : Draft P). Unit {0}) p n (λ d m _. refl) ds (anything ds)) other
    where
      anything : (ds : List (Draft P)) → Each (λ (d : Draft P). Unit {0}) ds
      anything [] = tt
      anything (d ∷ ds) = (tt, anything ds)

  first_copies : (n : ℕ) (k : Event P) → copies words k (first_queue words b n) ≡ cond (nat_lt k.sender n) (copies words k (stamped k.sender 0 (b.firsts k.sender))) 0
  first_copies zero k = sym (ap (λ (t : Bool). cond t (copies words k (stamped k.sender 0 (b.firsts k.sender))) 0) (le-ltb k.sender 0 (omega arith)))
  first_copies (suc n) k =
      let rest = first_copies n k in
      let all = copies-all_queued words k (stamped n 0 (b.firsts n)) (first_queue words b n) in
      let own = copies words k (stamped k.sender 0 (b.firsts k.sender)) in
      let goal = λ (t : Bool). cond t own 0 in
      elim (cases_eq k.sender n) as (λ _. copies words k (first_queue words b (suc n)) ≡ goal (nat_lt k.sender (suc n))) [
        | inl is ↦ (let here = ap goal (lt-ltb k.sender (suc n) (omega (arith, is))) in let before = ap goal (le-ltb k.sender n (omega (arith, is))) in let same = ap (λ p. copies words k (stamped p 0 (b.firsts p))) is in omega (arith, rest, all, here, before, same))
        | inr other ↦ (let none = stamped_by k n 0 (b.firsts n) other in elim (cases_lt k.sender n) as (λ _. copies words k (first_queue words b (suc n)) ≡ goal (nat_lt k.sender (suc n))) [
          | inl less ↦ (let here = ap goal (lt-ltb k.sender (suc n) (omega (arith, less))) in let before = ap goal (lt-ltb k.sender n less) in omega (arith, rest, all, none, here, before))
          | inr more ↦ (let past : n < k.sender = omega (arith, more, other) in let here = ap goal (le-ltb k.sender (suc n) (omega (arith, past))) in let before = ap goal (le-ltb k.sender n more) in omega (arith, rest, all, none, here, before))
        ])
      ]

  first_in_order : (n : ℕ) → IsInOrder words (first_queue words b n)
  first_in_order zero = tt
  first_in_order (suc n) = in_order_all_queued words (stamped n 0 (b.firsts n)) (first_queue words b n) (first_in_order n)

  first_sound : (n : ℕ) → StartsWithin n b → IsSound (first_run words b n)
  first_sound n starts = record {
    follows = record {
      states = λ p. refl;
      serials = λ p. sym (ap length (append-nil (stamped p 0 (b.firsts p))) ∙ length-stamped p 0 (b.firsts p));
      sent = λ k.
          let own = copies words k (stamped k.sender 0 (b.firsts k.sender)) in
          let queue = first_copies n k in
          let goal = λ (t : Bool). cond t own 0 in
          let whole = ap (copies words k) (append-nil (stamped k.sender 0 (b.firsts k.sender))) in
          elim (cases_lt k.sender n) as (λ _. 0 + copies words k (first_queue words b n) ≡ copies words k (all_sent b k.sender [])) [
            | inl less ↦ (let here = ap goal (lt-ltb k.sender n less) in omega (arith, queue, here, whole))
            | inr more ↦ (let here = ap goal (le-ltb k.sender n more) in let none = ap (λ ds. copies words k (stamped k.sender 0 ds)) (starts k.sender more) in omega (arith, queue, here, whole, none))
          ];
    };
    in_order = first_in_order n;
  }

  module _ (ahead : LooksAhead b) where
    after_sound : (r : Run P S) (e : Event P) (queue : List (Event P)) → IsSound r → r.queue ≡ e ∷ queue → IsSound (after_event words b r e queue)
    after_sound r e queue h is =
        let p = e.receiver in
        let drafts = b.drafts p (r.states p) e in
        let done = those_for p r.ran in
        let new = stamped p (r.serials p) drafts in
        let more = those_more p r.ran e refl in
        let more_sent : all_sent b p (those_for p (r.ran ++ e ∷ [])) ≡ all_sent b p done ++ new =
        ap (all_sent b p) more ∙ all_sent-push b p done e ∙ ap (λ n. all_sent b p done ++ stamped p n (b.drafts p (state_after b p done) e)) (sym (h.follows.serials p)) ∙ ap (λ s. all_sent b p done ++ stamped p (r.serials p) (b.drafts p s e)) (sym (h.follows.states p)) in
        let order = subst (λ l. IsInOrder words (r.ran ++ l)) is h.in_order in
        record {
          follows = record {
            states = λ q. elim (cases_eq q p) as (λ _. (after_event words b r e queue).states q ≡ state_after b q (those_for q (r.ran ++ e ∷ []))) [
              | inl same ↦ (ap (λ t. cond t (b.after p (r.states p) e) (r.states q)) (eq-eqb q p same) ∙ ap (λ s. b.after p s e) (h.follows.states p) ∙ sym (state_after-push b p done e) ∙ ap (state_after b p) (sym more) ∙ ap (λ m. state_after b m (those_for m (r.ran ++ e ∷ []))) (sym same))
              | inr other ↦ (ap (λ t. cond t (b.after p (r.states p) e) (r.states q)) (ne_eqb q p other) ∙ h.follows.states q ∙ ap (state_after b q) (sym (those_same q r.ran e (λ there. other (sym there)))))
            ];
            serials = λ q. elim (cases_eq q p) as (λ _. (after_event words b r e queue).serials q ≡ length (all_sent b q (those_for q (r.ran ++ e ∷ [])))) [
              | inl same ↦ (
                  let here = ap (λ t. cond t (r.serials p + length drafts) (r.serials q)) (eq-eqb q p same) in
                  let count = ap length more_sent ∙ length-append (all_sent b p done) new in
                  let few = length-stamped p (r.serials p) drafts in
                  let serial = h.follows.serials p in
                  let there = ap (λ m. length (all_sent b m (those_for m (r.ran ++ e ∷ [])))) same in
                  omega (arith, here, count, few, serial, there))
              | inr other ↦ (ap (λ t. cond t (r.serials p + length drafts) (r.serials q)) (ne_eqb q p other) ∙ h.follows.serials q ∙ ap (λ l. length (all_sent b q l)) (sym (those_same q r.ran e (λ there. other (sym there)))))
            ];
            sent = λ k.
                let ran = copies-append words k r.ran (e ∷ []) in
                let queued = copies-all_queued words k new queue in
                let before = h.follows.sent k in
                let first = ap (copies words k) is in
                elim (cases_eq k.sender p) as (λ _. copies words k (r.ran ++ e ∷ []) + copies words k (all_queued words new queue) ≡ copies words k (all_sent b k.sender (those_for k.sender (r.ran ++ e ∷ [])))) [
                  | inl same ↦ (
                      let sent = ap (copies words k) more_sent ∙ copies-append words k (all_sent b p done) new in
                      let old = ap (λ m. copies words k (all_sent b m (those_for m r.ran))) same in
                      let now = ap (λ m. copies words k (all_sent b m (those_for m (r.ran ++ e ∷ [])))) same in
                      omega (arith, ran, queued, before, first, sent, old, now))
                  | inr other ↦ (
                      let none = stamped_by k p (r.serials p) drafts other in
                      let now = ap (λ l. copies words k (all_sent b k.sender l)) (those_same k.sender r.ran e (λ there. other (sym there))) in
                      omega (arith, ran, queued, before, first, none, now))
                ];
          };
          in_order = in_order_all_behind words new (r.ran ++ e ∷ []) queue (Each-stamped (AreBefore words (r.ran ++ e ∷ [])) (λ (d : Draft P). e.time < d.time) p (r.serials p) (λ d m later. fronts_later words r.ran queue e (stamp p m d) order later) drafts (ahead p (r.states p) e)) (rw append_assoc order);
        }

    step_sound : (end : ℕ) (r : Run P S) (l : List (Event P)) → IsSound r → r.queue ≡ l → IsSound (step_with words b end r l)
    step_sound end r [] h is = h
    step_sound end r (e ∷ queue) h is =
        elim (cases_Bool (nat_le e.time end)) as (λ _. IsSound (step_with words b end r (e ∷ queue))) [
          | inl holds ↦ subst IsSound (ap (λ t. cond t (after_event words b r e queue) r) (sym holds)) (after_sound r e queue h is)
          | inr fails ↦ subst IsSound (ap (λ t. cond t (after_event words b r e queue) r) (sym fails)) h
        ]

    pub sequential_sound : (n end steps : ℕ) → StartsWithin n b → IsSound (sequential words b n end steps)
    sequential_sound n end zero starts = first_sound n starts
    sequential_sound n end (suc steps) starts = step_sound end (sequential words b n end steps) (sequential words b n end steps).queue (sequential_sound n end steps starts) refl

  -- a run that is over is a consistent family of histories
  pub over_consistent : (end : ℕ) (r : Run P S) → IsSound r → IsOver end r → IsConsistent words b (suc end) (λ p. those_for p r.ran)
  over_consistent end r h over = record {
    in_order = λ p. in_order_those words tells p r.ran (in_order_front words r.ran r.queue h.in_order);
    own = λ p. those_own p r.ran;
    balanced = λ e soon.
        let here = copies_those words tells e r.ran in
        let all = h.follows.sent e in
        let none = none_later words tells end e r.queue (omega (arith, soon)) over in
        omega (arith, here, all, none);
  }

-- ---- what a step does

module _ {P : Type 0} (words : P → List ℕ) {S : Type 0} (b : Behaviour P S) where
  pub step_stops : (end : ℕ) (r : Run P S) (queue : List (Event P)) → Each (λ (e : Event P). end < e.time) queue → step_with words b end r queue ≡ r
  step_stops end r [] h = refl
  step_stops end r (x ∷ queue) h = ap (λ t. cond t (after_event words b r x queue) r) (lt-leb x.time end h.0)

  pub over_stays : (n end steps more : ℕ) → IsOver end (sequential words b n end steps) → sequential words b n end (more + steps) ≡ sequential words b n end steps
  over_stays n end steps zero over = ap (sequential words b n end) (let e : 0 + steps ≡ steps = omega arith in e)
  over_stays n end steps (suc more) over =
      let r = sequential words b n end steps in
      ap (sequential words b n end) (let e : suc more + steps ≡ suc (more + steps) = omega arith in e) ∙ ap (λ (t : Run P S). step_with words b end t t.queue) (over_stays n end steps more over) ∙ step_stops end r r.queue over

  -- nothing beyond its end is run
  within_push : (end : ℕ) (es : List (Event P)) (e : Event P) → earlier (suc end) es ≡ es → e.time ≤ end → earlier (suc end) (es ++ e ∷ []) ≡ es ++ e ∷ []
  within_push end es e h soon = earlier-append (suc end) es (e ∷ []) ∙ ap (λ l. l ++ earlier (suc end) (e ∷ [])) h ∙ ap (λ l. es ++ l) (earlier_yes (suc end) e [] (omega (arith, soon)))

  step_within : (end : ℕ) (r : Run P S) (l : List (Event P)) → earlier (suc end) r.ran ≡ r.ran → earlier (suc end) (step_with words b end r l).ran ≡ (step_with words b end r l).ran
  step_within end r [] h = h
  step_within end r (e ∷ queue) h =
      let Q : Run P S → Type 0 = λ t. earlier (suc end) t.ran ≡ t.ran in
      elim (cases_lt end e.time) as (λ _. Q (step_with words b end r (e ∷ queue))) [
        | inr soon ↦ subst Q (ap (λ t. cond t (after_event words b r e queue) r) (sym (le-leb e.time end soon))) (within_push end r.ran e h soon)
        | inl late ↦ subst Q (ap (λ t. cond t (after_event words b r e queue) r) (sym (lt-leb e.time end late))) h
      ]

  pub sequential_within : (n end steps : ℕ) → earlier (suc end) (sequential words b n end steps).ran ≡ (sequential words b n end steps).ran
  sequential_within n end zero = refl
  sequential_within n end (suc steps) = step_within end (sequential words b n end steps) (sequential words b n end steps).queue (sequential_within n end steps)

  -- the first events that a process has in a run are all that it had after fewer steps
  pub record Reaches (n end p : ℕ) (es : List (Event P)) : Type 0 where
    pub steps : ℕ
    pub history : those_for p (sequential words b n end steps).ran ≡ es

  front_or_all : (xs : List (Event P)) (e : Event P) (k : ℕ) → (take k (xs ++ e ∷ []) ≡ take k xs) ⊎ (take k (xs ++ e ∷ []) ≡ xs ++ e ∷ [])
  front_or_all xs e zero = inl refl
  front_or_all [] e (suc k) = inr (nothing k)
    where
      nothing : (k : ℕ) → e ∷ take k [] ≡ e ∷ []
      nothing zero = refl
      nothing (suc k) = refl
  front_or_all (x ∷ xs) e (suc k) =
      elim (front_or_all xs e k) as (λ _. (take (suc k) ((x ∷ xs) ++ e ∷ []) ≡ take (suc k) (x ∷ xs)) ⊎ (take (suc k) ((x ∷ xs) ++ e ∷ []) ≡ (x ∷ xs) ++ e ∷ [])) [
        | inl few ↦ inl (ap (λ l. x ∷ l) few)
        | inr all ↦ inr (ap (λ l. x ∷ l) all)
      ]

  take_none : (k : ℕ) → take k (let none : List (Event P) = [] in none) ≡ []
  take_none zero = refl
  take_none (suc k) = refl

  reached_by : (n end p k steps : ℕ) (l : List (Event P)) → ((j : ℕ) → Reaches n end p (take j (those_for p (sequential words b n end steps).ran))) → (sequential words b n end steps).queue ≡ l → Reaches n end p (take k (those_for p (step_with words b end (sequential words b n end steps) l).ran))
  reached_by n end p k steps [] before is = before k
  reached_by n end p k steps (e ∷ queue) before is =
      let r = sequential words b n end steps in
      let Q : Run P S → Type 0 = λ t. Reaches n end p (take k (those_for p t.ran)) in
      elim (cases_Bool (nat_le e.time end)) as (λ _. Q (step_with words b end r (e ∷ queue))) [
        | inr fails ↦ subst Q (ap (λ t. cond t (after_event words b r e queue) r) (sym fails)) (before k)
        | inl holds ↦ (
            let now : step_with words b end r (e ∷ queue) ≡ after_event words b r e queue = ap (λ t. cond t (after_event words b r e queue) r) holds in
            let here : sequential words b n end (suc steps) ≡ after_event words b r e queue = ap (step_with words b end r) is ∙ now in
            subst Q (sym now) (elim (cases_eq e.receiver p) as (λ _. Q (after_event words b r e queue)) [
              | inr other ↦ subst (λ l. Reaches n end p (take k l)) (sym (those_same p r.ran e other)) (before k)
              | inl own ↦ subst (λ l. Reaches n end p (take k l)) (sym (those_more p r.ran e own)) (elim (front_or_all (those_for p r.ran) e k) as (λ _. Reaches n end p (take k (those_for p r.ran ++ e ∷ []))) [
                | inl few ↦ subst (Reaches n end p) (sym few) (before k)
                | inr all ↦ record { steps = suc steps; history = ap (λ (t : Run P S). those_for p t.ran) here ∙ those_more p r.ran e own ∙ sym all }
              ])
            ]))
      ]

  pub front_reached : (n end p k steps : ℕ) → Reaches n end p (take k (those_for p (sequential words b n end steps).ran))
  front_reached n end p k zero = record { steps = 0; history = sym (take_none k) }
  front_reached n end p k (suc steps) =
      reached_by n end p k steps (sequential words b n end steps).queue (λ j. front_reached n end p j steps) refl
