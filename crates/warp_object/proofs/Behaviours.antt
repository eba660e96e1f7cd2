-- Behaviours whose states know how many events led to them.
use Rattle.std.proofs.Common.{◌≡◌, ℕ, suc, ◌+◌, ◌<◌, ◌≤◌, inl, inr, Bool, true, false, cond, nat_lt, ◌==◌, Option}
use Rattle.std.proofs.Common.{Some, None, List, [], ◌∷◌, ◌++◌, length, take, refl, ap, sym, subst, ◌∙◌, arith}
use Rattle.std.specs.List.{filter}
use Rattle.std.proofs.lemmas.Bool.{cases_Bool, eq-eqb, ne_eqb, eqb-true, lt-ltb, ltb-true}
use Rattle.std.proofs.lemmas.List.{length-take-le}
use Rattle.dym_base.specs.Heaps.{Live}
use Rattle.warp_base.specs.declared.event.Event.{Event}
use Rattle.warp_base.specs.declared.event.Draft.{Draft}
use Rattle.warp_base.specs.Events.{Each}
use Rattle.warp_base.specs.Histories.{Behaviour, LooksAhead, stamped, state_from, sent_from, state_after, all_sent}
use Rattle.warp_base.proofs.Lists.{Each-weaker, Each-passed, filter_all}
use Rattle.warp_process.specs.Processes.{ProcessFace, IsProcess, IsRun, IsCopy, IsFirstFault, done_of}
use Rattle.warp_process.proofs.Steps.{length-done}
use Rattle.warp_object.specs.declared.moment.Moment.{Moment}
use Rattle.warp_object.specs.Moments.{moment, dated}
use Rattle.warp_object.specs.Processes.{IsKnown, date_of}

module _ {P : Type 0} (b : Behaviour P Live) (p : ℕ) where
  dated_from : (n : ℕ) (s : Live) (es : List (Event P))
      → state_from (dated b) p (moment n s) es ≡ moment (n + length es) (state_from b p s es)
  dated_from n s [] = ap (λ k. moment k s) (let e : n ≡ n + 0 = omega arith in e)
  dated_from n s (e ∷ es) =
      let s' = b.after p s e in
      dated_from (suc n) s' es ∙ ap (λ k. moment k (state_from b p s' es))
      (let e : suc n + length es ≡ n + suc (length es) = omega arith in e)

  -- the states of a dated behaviour are those of the behaviour
  pub dated_after : (es : List (Event P)) → state_after (dated b) p es ≡ moment (length es) (state_after b p es)
  dated_after es =
      dated_from 0 (b.start p) es ∙ ap (λ k. moment k (state_after b p es))
      (let e : 0 + length es ≡ length es = omega arith in e)

module _ {P : Type 0} (b : Behaviour P Moment) (p : ℕ) (counts : (n : ℕ) (m : Moment) (e : Event P)
    → (b.after n m e).seen.0 ≡ suc m.seen.0) where
  pub counted_from : (m : Moment) (es : List (Event P)) → (state_from b p m es).seen.0 ≡ m.seen.0 + length es
  counted_from m [] = omega arith
  counted_from m (e ∷ es) =
      let rest = counted_from (b.after p m e) es in
      let one = counts p m e in
      omega (arith, rest, one)

  module _ (date : ℕ) (live : Live) (ds : List (Draft P)) where
    -- the behaviour that at this date does what was given, and else the same
    abbrev pub with_step : Behaviour P Moment
    with_step = record {
      start = b.start;
      firsts = b.firsts;
      after = λ n m e. cond (m.seen.0 == date) (moment (suc date) live) (b.after n m e);
      drafts = λ n m e. cond (m.seen.0 == date) (filter (λ d. nat_lt e.time d.time) ds) (b.drafts n m e);
      faulty = b.faulty;
    }

    step_after : (m : Moment) (e : Event P) → m.seen.0 < date → with_step.after p m e ≡ b.after p m e
    step_after m e less =
        ap (λ t. cond t (moment (suc date) live) (b.after p m e)) (ne_eqb m.seen.0 date (λ is. omega (arith, is, less)))

    step_drafts : (m : Moment) (e : Event P) → m.seen.0 < date → with_step.drafts p m e ≡ b.drafts p m e
    step_drafts m e less =
        ap (λ t. cond t (filter (λ (d : Draft P). nat_lt e.time d.time) ds) (b.drafts p m e))
        (ne_eqb m.seen.0 date (λ is. omega (arith, is, less)))

    same_state : (m : Moment) (es : List (Event P)) → m.seen.0 + length es ≤ date
        → state_from with_step p m es ≡ state_from b p m es
    same_state m [] few = refl
    same_state m (e ∷ es) few =
        ap (λ s. state_from with_step p s es) (step_after m e (omega (arith, few)))
        ∙ same_state (b.after p m e) es (let one = counts p m e in omega (arith, one, few))

    same_sent : (n : ℕ) (m : Moment) (es : List (Event P)) → m.seen.0 + length es ≤ date
        → sent_from with_step p n m es ≡ sent_from b p n m es
    same_sent n m [] few = refl
    same_sent n m (e ∷ es) few =
        let less : m.seen.0 < date = omega (arith, few) in
        let drafts = b.drafts p m e in
        ap (λ l. stamped p n l ++ sent_from with_step p (n + length l) (with_step.after p m e) es)
        (step_drafts m e less) ∙ ap (λ s. stamped p n drafts ++ sent_from with_step p (n + length drafts) s es)
        (step_after m e less) ∙ ap (λ l. stamped p n drafts ++ l)
        (same_sent (n + length drafts)
        (b.after p m e) es (let one = counts p m e in omega (arith, one, few)))

    pub step_looks_ahead : LooksAhead b → LooksAhead with_step
    step_looks_ahead ahead n m e =
        let later = λ (d : Draft P). e.time < d.time in
        let kept = filter (λ (d : Draft P). nat_lt e.time d.time) ds in
        elim (cases_Bool (m.seen.0 == date)) as (λ _. Each later (cond (m.seen.0 == date) kept (b.drafts n m e))) [
          | inl at ↦ subst (λ t. Each later (cond t kept (b.drafts n m e))) (sym at)
              (Each-passed (λ (d : Draft P). nat_lt e.time d.time) later (λ d passes. ltb-true e.time d.time passes) ds)
          | inr before ↦ subst (λ t. Each later (cond t kept (b.drafts n m e))) (sym before) (ahead n m e)
        ]

    pub step_counts : (n : ℕ) (m : Moment) (e : Event P) → (with_step.after n m e).seen.0 ≡ suc m.seen.0
    step_counts n m e =
        elim (cases_Bool (m.seen.0 == date)) as (λ _. (cond (m.seen.0 == date) (moment (suc date) live)
        (b.after n m e)).seen.0 ≡ suc m.seen.0) [
          | inl at ↦ ap (λ (t : Bool). (cond t (moment (suc date) live) (b.after n m e)).seen.0) at
              ∙ ap suc (sym (eqb-true m.seen.0 date at))
          | inr before ↦ ap (λ (t : Bool). (cond t (moment (suc date) live) (b.after n m e)).seen.0) before
              ∙ counts n m e
        ]

-- what a process that is known comes to, where the next event did what is given
pub record IsReady {P : Type 0} (words : P → List ℕ) (f : ProcessFace P Moment) (e : Event P) (live : Live)
    (ds : List (Draft P)) : Type 0 where
  pub behaviour : Behaviour P Moment
  pub past : List (Event P)
  pub looks_ahead : LooksAhead behaviour
  pub starts : (n : ℕ) → (behaviour.start n).seen.0 ≡ 0
  pub counts : (n : ℕ) (m : Moment) (x : Event P) → (behaviour.after n m x).seen.0 ≡ suc m.seen.0
  pub faultless : (m : Moment) → behaviour.faulty m ≡ false
  pub process : IsProcess words behaviour past f
  pub after : moment (suc (date_of f)) live ≡ behaviour.after f.number (state_after behaviour f.number (done_of past f)) e
  pub drafts : ds ≡ behaviour.drafts f.number (state_after behaviour f.number (done_of past f)) e

module _ {P : Type 0} (words : P → List ℕ) (f : ProcessFace P Moment) (reached : Option ℕ)
    (k : IsKnown words f reached) (live : Live) (ds : List (Draft P)) where
  abbrev done : List (Event P)
  done = done_of k.past f

  -- the date is the number of the events that are run
  date_done : date_of f ≡ length done
  date_done = let long = length-done words k.behaviour k.past f k.process in let dates = k.process.dates in omega (arith, long, dates)

  abbrev step : Behaviour P Moment
  step = with_step k.behaviour f.number k.counts (date_of f) live ds

  still : (es : List (Event P)) → length es ≤ date_of f
      → state_after step f.number es ≡ state_after k.behaviour f.number es
  still es few = same_state k.behaviour f.number k.counts (date_of f) live ds (k.behaviour.start f.number) es (let begins = k.starts f.number in omega (arith, begins, few))

  past_few : length k.past + length f.marks ≡ date_of f
  past_few = let dates = k.process.dates in omega (arith, dates)

  past_state : (state_after k.behaviour f.number k.past).seen.0 ≡ length k.past
  past_state = let all = counted_from k.behaviour f.number k.counts (k.behaviour.start f.number) k.past in let begins = k.starts f.number in omega (arith, all, begins)

  past_sent : all_sent step f.number k.past ≡ all_sent k.behaviour f.number k.past
  past_sent =
      let first = length (k.behaviour.firsts f.number) in
      let begins = k.starts f.number in
      let few = past_few in
      ap (λ l. stamped f.number 0 (k.behaviour.firsts f.number) ++ l)
      (same_sent k.behaviour f.number k.counts (date_of f) live ds first (k.behaviour.start f.number) k.past (omega (arith, begins, few)))

  run_still : IsRun step f.number (length (all_sent step f.number k.past))
      (state_after step f.number k.past) f.events f.marks f.sent f.serial
  run_still =
      let p = f.number in
      let n = length (all_sent k.behaviour p k.past) in
      let s = state_after k.behaviour p k.past in
      let few = past_few in
      let at = past_state in
      let within = k.process.ran_within in
      let same : (j : ℕ) → j ≤ length f.marks
      → sent_from step p n s (take j f.events) ≡ sent_from k.behaviour p n s (take j f.events) = λ j soon.
      let long = length-take-le j f.events (omega (arith, soon, within)) in
      same_sent k.behaviour p k.counts (date_of f) live ds n s (take j f.events) (omega (arith, at, few, long, soon))
      in
      let here : IsRun step p n s f.events f.marks f.sent f.serial = record {
        mark = λ j less. k.process.run.mark j less ∙ ap (λ l. Some (n + length l)) (sym (same j (omega (arith, less))));
        outputs = k.process.run.outputs ∙ sym (same (length f.marks) (omega arith));
        total = k.process.run.total;
      } in
      subst (λ (l : List (Event P)). IsRun step p (length l)
      (state_after step p k.past) f.events f.marks f.sent f.serial) (sym past_sent)
      (subst (λ t. IsRun step p n t f.events f.marks f.sent f.serial) (sym (still k.past (omega (arith, few)))) here)

  front_few : (c : ℕ) → c ≤ length done → length (take c done) ≤ date_of f
  front_few c soon = let long = length-take-le c done soon in let date = date_done in omega (arith, long, date, soon)

  fault_still : (fault : Option ℕ) → IsFirstFault k.behaviour f.number done fault
      → IsFirstFault step f.number done fault
  fault_still None is = λ c soon. ap k.behaviour.faulty (still (take c done) (front_few c soon)) ∙ is c soon
  fault_still (Some date) is = (
    is.0,
    ap k.behaviour.faulty (still (take date done) (front_few date is.0))
        ∙ is.1,
    λ c less. let within = is.0 in ap k.behaviour.faulty (still (take c done)
        (front_few c (omega (arith, less, within)))) ∙ is.2 c less,
  )

  process_still : IsProcess words step k.past f
  process_still = record {
    in_order = k.process.in_order;
    own = k.process.own;
    committed = k.process.committed;
    pending = k.process.pending;
    early_own = k.process.early_own;
    early_from = k.process.early_from;
    apart = k.process.apart;
    ran_within = k.process.ran_within;
    run = run_still;
    fossils = k.process.fossils;
    dates = k.process.dates;
    counted = k.process.counted;
    ascending = k.process.ascending;
    kept = Each-weaker (IsCopy k.behaviour f.number done) (IsCopy step f.number done)
        (λ c is. (is.0, is.1 ∙ sym (still (take c.0 done) (front_few c.0 is.0)))) f.copies k.process.kept;
    oldest = k.process.oldest;
    state = λ fresh. k.process.state fresh ∙ sym (still done (let date = date_done in omega (arith, date)));
    fault = fault_still f.fault k.process.fault;
  }

  pub ready_for : (e : Event P) → Each (λ (d : Draft P). e.time < d.time) ds → IsReady words f e live ds
  ready_for e later =
      let s = state_after step f.number done in
      let counts = step_counts k.behaviour f.number k.counts (date_of f) live ds in
      let all = counted_from step f.number counts (k.behaviour.start f.number) done in
      let begins = k.starts f.number in
      let date = date_done in
      let here : (s.seen.0 == date_of f) ≡ true = eq-eqb s.seen.0 (date_of f) (omega (arith, all, begins, date)) in
      let kept = filter (λ (d : Draft P). nat_lt e.time d.time) ds in
      record {
        behaviour = step;
        past = k.past;
        looks_ahead = step_looks_ahead k.behaviour f.number k.counts (date_of f) live ds k.looks_ahead;
        starts = k.starts;
        counts = counts;
        faultless = k.faultless;
        process = process_still;
        after = sym (ap (λ t. cond t (moment (suc (date_of f)) live) (k.behaviour.after f.number s e)) here);
        drafts = sym (ap (λ t. cond t kept (k.behaviour.drafts f.number s e)) here
            ∙ filter_all (λ (d : Draft P). nat_lt e.time d.time) ds (Each-weaker (λ (d : Draft P). e.time < d.time)
            (λ (d : Draft P). nat_lt e.time d.time ≡ true) (λ d more. lt-ltb e.time d.time more) ds later));
      }
