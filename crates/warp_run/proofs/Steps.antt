-- The run in order, step by step: what it comes to where an event is run, and where a fault is met.
use Rattle.std.proofs.Common.{◌≡◌, ◌≢◌, ℕ, zero, suc, ◌+◌, ◌<◌, ◌≤◌, true, false, cond, nat_le, List, [], ◌∷◌, length, refl, ap, sym, subst, ◌∙◌, arith, inl, inr, length-append}
use Rattle.std.proofs.lemmas.Bool.{cases_Bool, cases_eq, eq-eqb, ne_eqb, le-leb}
use Rattle.warp_base.specs.declared.event.Event.{Event}
use Rattle.warp_base.specs.declared.event.Draft.{Draft}
use Rattle.warp_base.specs.Events.{Each}
use Rattle.warp_base.specs.Histories.{Behaviour, stamped, SendsWithin}
use Rattle.warp_base.specs.Sequential.{Run, first_queue, after_event, step_with, sequential}
use Rattle.warp_base.proofs.Folds.{Each-stamped}
use Rattle.warp_run.specs.declared.finished.Failure.{Failure}
use Rattle.warp_run.specs.declared.finished.Failure.TheVariants.{OutOfMemory, Fault, TooManyEvents}
use Rattle.warp_run.specs.Ends.{IsSoundUntil, FaultsFirstAt}
use Rattle.warp_run.specs.Failures.{MatchFailure}
use Rattle.warp_run.proofs.Sorted.{Each-all_queued}

-- what a failure says, weaker
pub MatchFailure-weaker : {F G : ℕ → Type 0} {A B : Type 0} (failure : Failure) → ((p : ℕ) → F p → G p) → (A → B) → MatchFailure F A failure → MatchFailure G B failure
MatchFailure-weaker OutOfMemory one two h = tt
MatchFailure-weaker (Fault process) one two h = one process h
MatchFailure-weaker TooManyEvents one two h = two h

module _ {P S : Type 0} (words : P → List ℕ) (b : Behaviour P S) (n end : ℕ) where
  abbrev at : ℕ → Run P S
  at steps = sequential words b n end steps

  -- each event in the queue is for one of the processes
  first_within : SendsWithin n b → (k : ℕ) → Each (λ (e : Event P). e.receiver < n) (first_queue words b k)
  first_within sends zero = tt
  first_within sends (suc k) =
      Each-all_queued words (λ (e : Event P). e.receiver < n) (stamped k 0 (b.firsts k)) (first_queue words b k) (Each-stamped (λ (e : Event P). e.receiver < n) (λ (d : Draft P). d.receiver < n) k 0 (λ d m less. less) (b.firsts k) (sends.firsts k)) (first_within sends k)

  step_within : SendsWithin n b → (r : Run P S) (l : List (Event P)) → r.queue ≡ l → Each (λ (e : Event P). e.receiver < n) r.queue → Each (λ (e : Event P). e.receiver < n) (step_with words b end r l).queue
  step_within sends r [] is h = h
  step_within sends r (e ∷ queue) is h =
      let Q : Run P S → Type 0 = λ t. Each (λ (e : Event P). e.receiver < n) t.queue in
      let p = e.receiver in
      let left = (subst (Each (λ (e : Event P). e.receiver < n)) is h).1 in
      let more : Q (after_event words b r e queue) = Each-all_queued words (λ (e : Event P). e.receiver < n) (stamped p (r.serials p) (b.drafts p (r.states p) e)) queue (Each-stamped (λ (e : Event P). e.receiver < n) (λ (d : Draft P). d.receiver < n) p (r.serials p) (λ d m less. less) (b.drafts p (r.states p) e) (sends.drafts p (r.states p) e)) left in
      elim (cases_Bool (nat_le e.time end)) as (λ _. Q (step_with words b end r (e ∷ queue))) [
        | inl holds ↦ subst Q (sym (ap (λ t. cond t (after_event words b r e queue) r) holds)) more
        | inr fails ↦ subst Q (sym (ap (λ t. cond t (after_event words b r e queue) r) fails)) h
      ]

  receivers_within : SendsWithin n b → (steps : ℕ) → Each (λ (e : Event P). e.receiver < n) (at steps).queue
  receivers_within sends zero = first_within sends n
  receivers_within sends (suc steps) = step_within sends (at steps) (at steps).queue refl (receivers_within sends steps)

  pub receiver_within : SendsWithin n b → (steps : ℕ) (e : Event P) (queue : List (Event P)) → (at steps).queue ≡ e ∷ queue → e.receiver < n
  receiver_within sends steps e queue is = (subst (Each (λ (e : Event P). e.receiver < n)) is (receivers_within sends steps)).0

  -- the first event in the queue is run, if it isn't later than the end
  pub step_runs : (steps : ℕ) (e : Event P) (queue : List (Event P)) → (at steps).queue ≡ e ∷ queue → e.time ≤ end → at (steps + 1) ≡ after_event words b (at steps) e queue
  step_runs steps e queue is soon =
      ap at (let one : steps + 1 ≡ suc steps = omega arith in one) ∙ ap (step_with words b end (at steps)) is ∙ ap (λ t. cond t (after_event words b (at steps) e queue) (at steps)) (le-leb e.time end soon)

  pub ran_more : (steps : ℕ) (e : Event P) (queue : List (Event P)) → at (steps + 1) ≡ after_event words b (at steps) e queue → length (at steps).ran ≡ steps → length (at (steps + 1)).ran ≡ steps + 1
  ran_more steps e queue is count =
      let all = ap (λ (r : Run P S). length r.ran) is ∙ length-append (at steps).ran (e ∷ []) in omega (arith, all, count)

  -- the states after an event are those before it, but for the receiver's
  state_here : (steps : ℕ) (e : Event P) (queue : List (Event P)) → at (steps + 1) ≡ after_event words b (at steps) e queue → (at (steps + 1)).states e.receiver ≡ b.after e.receiver ((at steps).states e.receiver) e
  state_here steps e queue is =
      ap (λ (r : Run P S). r.states e.receiver) is ∙ ap (λ t. cond t (b.after e.receiver ((at steps).states e.receiver) e) ((at steps).states e.receiver)) (eq-eqb e.receiver e.receiver refl)

  state_beside : (steps : ℕ) (e : Event P) (queue : List (Event P)) (q : ℕ) → at (steps + 1) ≡ after_event words b (at steps) e queue → q ≢ e.receiver → (at (steps + 1)).states q ≡ (at steps).states q
  state_beside steps e queue q is other =
      ap (λ (r : Run P S). r.states q) is ∙ ap (λ t. cond t (b.after e.receiver ((at steps).states e.receiver) e) ((at steps).states q)) (ne_eqb q e.receiver other)

  pub sound_start : ((p : ℕ) → p < n → b.faulty (b.start p) ≡ false) → IsSoundUntil words b n end 0
  sound_start h k p none within = subst (λ j. b.faulty ((at j).states p) ≡ false) (let is : 0 ≡ k = omega (arith, none) in is) (h p within)

  pub sound_more : (steps : ℕ) (e : Event P) (queue : List (Event P)) → at (steps + 1) ≡ after_event words b (at steps) e queue → IsSoundUntil words b n end steps → b.faulty (b.after e.receiver ((at steps).states e.receiver) e) ≡ false → IsSoundUntil words b n end (steps + 1)
  sound_more steps e queue is before fine k p upto within =
      elim (cases_eq k (steps + 1)) as (λ _. b.faulty ((at k).states p) ≡ false) [
        | inr earlier ↦ before k p (omega (arith, upto, earlier)) within
        | inl now ↦ subst (λ j. b.faulty ((at j).states p) ≡ false) (sym now) (elim (cases_eq p e.receiver) as (λ _. b.faulty ((at (steps + 1)).states p) ≡ false) [
          | inl here ↦ (ap (λ q. b.faulty ((at (steps + 1)).states q)) here ∙ ap b.faulty (state_here steps e queue is) ∙ fine)
          | inr other ↦ (ap b.faulty (state_beside steps e queue p is other) ∙ before steps p (omega arith) within)
        ])
      ]

  pub fault_at_start : (p : ℕ) → p < n → b.faulty (b.start p) ≡ true → ((q : ℕ) → q < p → b.faulty (b.start q) ≡ false) → FaultsFirstAt words b n end p
  fault_at_start p within fault beside = record { steps = 0; within = within; fault = fault; before = λ k q no. absurd (omega (arith, no)); beside = beside }

  pub fault_at_step : (steps : ℕ) (e : Event P) (queue : List (Event P)) → at (steps + 1) ≡ after_event words b (at steps) e queue → IsSoundUntil words b n end steps → e.receiver < n → b.faulty (b.after e.receiver ((at steps).states e.receiver) e) ≡ true → FaultsFirstAt words b n end e.receiver
  fault_at_step steps e queue is before within fault = record {
    steps = steps + 1;
    within = within;
    fault = ap b.faulty (state_here steps e queue is) ∙ fault;
    before = λ k q upto. before k q (omega (arith, upto));
    beside = λ q less. ap b.faulty (state_beside steps e queue q is (λ same. omega (arith, same, less))) ∙ before steps q (omega arith) (omega (arith, less, within));
  }
