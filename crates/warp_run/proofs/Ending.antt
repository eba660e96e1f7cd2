-- What a world comes to: its end is the end of the run in order, and a fault in what is committed is one that this run meets.
use Rattle.std.proofs.Common.{◌≡◌, ℕ, zero, suc, ◌+◌, ◌-◌, ◌^◌, ◌<◌, ◌≤◌, ◌⊎◌, inl, inr, true, false, nat_lt, Some, None, option_map, slice_get, List, [], ◌∷◌, ◌++◌, length, map, take, refl, ap, sym, subst, ◌∙◌, arith, length-append}
use Rattle.std.proofs.lemmas.List.{append-nil, take-append-drop, take-append-le}
use Rattle.std.proofs.lemmas.Option.{slice_get-map, slice_get_within}
use Rattle.std.proofs.lemmas.Bool.{cases_lt, lt-ltb, le-ltb}
use Rattle.warp_base.specs.declared.event.Event.{Event}
use Rattle.warp_base.specs.Events.{Each, AreFrom, copies}
use Rattle.warp_base.specs.Histories.{Behaviour, LooksAhead, StartsWithin, SendsWithin, stamped, state_after, all_sent, earlier}
use Rattle.warp_base.specs.Sequential.{Run, sequential, those_for}
use Rattle.warp_base.specs.Settled.{IsSettled, EndsAsSequential}
use Rattle.warp_base.specs.Laws.{SequentialIsSound, BoundIsSafe, StatesAreReal, NothingBeyond}
use Rattle.warp_base.proofs.Lists.{Each-weaker, filter_all, filter_none, filter-++}
use Rattle.warp_base.proofs.Folds.{length-stamped}
use Rattle.warp_base.proofs.Orders.{TellsApart, Each-copy, hit_self}
use Rattle.warp_process.specs.Processes.{ProcessFace, IsProcess, done_of, bound_of}
use Rattle.warp_worker.specs.Workers.{WorkerFace, Cell, TellsFailed, AreNumbered, HasEnded, total, history_of, settled_of, to_run, ran_of}
use Rattle.warp_run.specs.Ends.{IsEnd, FaultsAt, IsHalfTooLong}
use Rattle.warp_run.specs.Worlds.{IsWorld}
use Rattle.warp_run.proofs.Totals.{Each-at}
use Rattle.warp_run.proofs.Families.{faces, all_cells, past, events, early, marks, process_at, number_is, ready_at, settled, beyond, past_of, events_of, early_of}
use Rattle.warp_run.proofs.Runs.{Grows, ran_grows, those_grow, those_fewer, those_all, reached_later, sum_those, sum_all, ran_within}

module _ {P : Type 0} where
  earlier_all : (t : ℕ) (xs : List (Event P)) → Each (λ (e : Event P). e.time < t) xs → earlier t xs ≡ xs
  earlier_all t xs h = filter_all (λ (e : Event P). nat_lt e.time t) xs (Each-weaker (λ (e : Event P). e.time < t) (λ (e : Event P). nat_lt e.time t ≡ true) (λ e soon. lt-ltb e.time t soon) xs h)

  earlier_none : (t : ℕ) (xs : List (Event P)) → AreFrom t xs → earlier t xs ≡ []
  earlier_none t xs h = filter_none (λ (e : Event P). nat_lt e.time t) xs (Each-weaker (λ (e : Event P). t ≤ e.time) (λ (e : Event P). nat_lt e.time t ≡ false) (λ e late. le-ltb e.time t late) xs h)

mapped_long : {X Y : Type 0} (f : X → Y) (xs : List X) → length (map f xs) ≡ length xs
mapped_long f [] = refl
mapped_long f (x ∷ xs) = ap suc (mapped_long f xs)

pub mapped_at : {X Y : Type 0} (f : X → Y) (xs : List X) (i : ℕ) (y : Y) → slice_get (map f xs) i ≡ Some y → (x : X) × (slice_get xs i ≡ Some x) × (f x ≡ y)
mapped_at f [] i y there = cc
mapped_at f (x ∷ xs) zero y there = (x, refl, (let is : f x ≡ y = cc in is))
mapped_at f (x ∷ xs) (suc i) y there = mapped_at f xs i y there

-- where each process has done what the run in order has it do, all of them have done as much
counted : {P S : Type 0} (ran : List (Event P)) (first : ℕ) (cells : List (Cell P S)) → AreNumbered first (faces cells) → ((k : ℕ) (c : Cell P S) → slice_get cells k ≡ Some c → done_of c.0 c.1 ≡ those_for (first + k) ran) → total (λ (c : Cell P S). length (done_of c.0 c.1)) cells ≡ sum_those first (length cells) ran
counted ran first [] numbered done = refl
counted {P} {S} ran first (c ∷ cells) numbered done =
    let one = ap length (done zero c refl) ∙ ap (λ p. length (those_for p ran)) (let e : first + 0 ≡ first = omega arith in e) in
    let rest = counted ran (suc first) cells numbered.1 (λ k d there. done (suc k) d there ∙ ap (λ p. those_for p ran) (let e : first + suc k ≡ suc first + k = omega arith in e)) in
    omega (arith, one, rest)

module _ {P S : Type 0} (words : P → List ℕ) (tells : TellsApart words) (b : Behaviour P S) (n bound end : ℕ) (cells : List (Cell P S)) (ws : List (WorkerFace P S)) (ahead : LooksAhead b) (starts : StartsWithin n b) (world : IsWorld words b n bound end cells ws []) where
  -- the events before the bound are a process's past, where none before it is left to be run, and some that stand
  past_first : (last p : ℕ) (c : Cell P S) → bound ≡ suc last → slice_get cells p ≡ Some c → (k : ℕ) → k ≤ length c.0 → take k (earlier (suc last) (past_of (Some c) ++ events_of (Some c))) ≡ take k c.0
  past_first last p c is there k few =
      let process = process_at words b tells n bound end cells ws starts world p c there in
      let ready = ready_at words b tells n bound end cells ws starts world p c there in
      let committed = ready.committed in
      let all = earlier_all (suc last) c.0 (Each-weaker (λ (e : Event P). e.time < bound_of c.1.last) (λ (e : Event P). e.time < suc last) (λ e soon. omega (arith, soon, committed, is)) c.0 process.committed) in
      let split = filter-++ (λ (e : Event P). nat_lt e.time (suc last)) c.0 c.1.events ∙ ap (λ l. l ++ earlier (suc last) c.1.events) all in
      ap (take k) split ∙ take-append-le k c.0 (earlier (suc last) c.1.events) few

  -- a fault after events that stand before the bound is one of the run in order
  fault_real : StatesAreReal words S → (last k p : ℕ) (c : Cell P S) (es : List (Event P)) → bound ≡ suc last → last ≤ end → slice_get cells p ≡ Some c → take k (earlier (suc last) (c.0 ++ c.1.events)) ≡ es → b.faulty (state_after b p es) ≡ true → FaultsAt words b n end p
  fault_real real last k p c es is few there front fault =
      let state = real b n last (past words b tells n bound end cells ws starts world) (events words b tells n bound end cells ws starts world) (early words b tells n bound end cells ws starts world) (marks words b tells n bound end cells ws starts world) ahead starts (subst (λ t. IsSettled words b t (past words b tells n bound end cells ws starts world) (events words b tells n bound end cells ws starts world) (early words b tells n bound end cells ws starts world) (marks words b tells n bound end cells ws starts world)) is (settled words b tells n bound end cells ws starts world)) (beyond words b tells n bound end cells ws starts world) p k in
      let later = reached_later words b n last end state.0 few in
      let here : (sequential words b n end later.0).states p ≡ state_after b p es = ap (λ (r : Run P S). r.states p) later.1 ∙ state.1 ∙ ap (λ o. state_after b p (take k (earlier (suc last) (past_of o ++ events_of o)))) there ∙ ap (state_after b p) front in
      record {
        steps = later.0;
        within = let count = (all_cells words b tells n bound end cells ws starts world).count in let less = slice_get_within cells p c there in omega (arith, count, less);
        fault = ap b.faulty here ∙ fault;
      }

  -- a failure in what is committed is one of the run in order
  pub failure_real : StatesAreReal words S → (last p : ℕ) → bound ≡ suc last → last ≤ end → TellsFailed words b cells (Some p) → FaultsAt words b n end p
  failure_real real last p is few failed =
      let i = failed.0 in
      let c = failed.1 in
      let there = failed.2 in
      let number = number_is words b tells n bound end cells ws starts world i c there in
      let k = failed.4.0 in
      let at : i ≡ p = sym number ∙ failed.3 in
      subst (FaultsAt words b n end) at (fault_real real last k i c (take k c.0) is few there (past_first last i c is there k failed.4.1) (ap (λ q. b.faulty (state_after b q (take k c.0))) at ∙ failed.4.2))

  -- what stands below the bound is of the run in order, and so are so many events of it
  pub many_real : SequentialIsSound words S → BoundIsSafe words S → bound ≤ end → (p : ℕ) (c : Cell P S) → slice_get cells p ≡ Some c → (s : S) (e : Event P) → (2 ^ 63 ≤ length (settled_of bound c)) ⊎ (2 ^ 63 ≤ length (all_sent b p (settled_of bound c)) + length (b.drafts p s e)) → IsHalfTooLong words b n end
  many_real sound safe few p c there s e many = by_bound bound refl
    where
      any : (xs : List (Event P)) → AreFrom 0 xs
      any [] = tt
      any (x ∷ xs) = (omega arith, any xs)

      by_bound : (t : ℕ) → bound ≡ t → IsHalfTooLong words b n end
      by_bound zero is =
          let none : settled_of bound c ≡ [] = ap (λ t. earlier t (history_of c)) is ∙ earlier_none 0 (history_of c) (any (history_of c)) in
          elim many as (λ _. IsHalfTooLong words b n end) [
            | inl ran ↦ absurd (let long = ap length none in omega (arith, ran, long))
            | inr sent ↦ (
                let same = ap (λ l. length (all_sent b p l)) none ∙ length-append (stamped p 0 (b.firsts p)) [] in
                let firsts = length-stamped p 0 (b.firsts p) in
                let all : 2 ^ 63 ≤ length (b.firsts p) + length (b.drafts p s e) = omega (arith, sent, same, firsts) in
                record { steps = 0; many = inr (p, s, e, all) })
          ]
      by_bound (suc last) is =
          let ends = (safe b n last (past words b tells n bound end cells ws starts world) (events words b tells n bound end cells ws starts world) (early words b tells n bound end cells ws starts world) (marks words b tells n bound end cells ws starts world) ahead starts (subst (λ t. IsSettled words b t (past words b tells n bound end cells ws starts world) (events words b tells n bound end cells ws starts world) (early words b tells n bound end cells ws starts world) (marks words b tells n bound end cells ws starts world)) is (settled words b tells n bound end cells ws starts world)) (beyond words b tells n bound end cells ws starts world)).sequential in
          let r = sequential words b n last ends.0 in
          let history : settled_of bound c ≡ those_for p r.ran = ap (λ t. earlier t (history_of c)) is ∙ ap (λ o. earlier (suc last) (past_of o ++ events_of o)) (sym there) ∙ ends.2.history p in
          let later = reached_later words b n last end ends.0 (omega (arith, few, is)) in
          elim many as (λ _. IsHalfTooLong words b n end) [
            | inl ran ↦ (
                let long = ap length history in
                let fewer = those_all p r.ran in
                let same = ap (λ (x : Run P S). length x.ran) later.1 in
                record { steps = later.0; many = inl (omega (arith, ran, long, fewer, same)) })
            | inr sent ↦ (
                let all = ap (λ l. length (all_sent b p l)) history in
                let serial = (sound b n last ends.0 ahead starts).follows.serials p in
                let same = ap (λ (x : Run P S). x.serials p) later.1 in
                record { steps = later.0; many = inr (p, s, e, omega (arith, sent, all, serial, same)) })
          ]

  -- no anti-message waits below the bound
  pub early_behind : BoundIsSafe words S → (p : ℕ) (c : Cell P S) → slice_get cells p ≡ Some c → AreFrom bound c.1.early
  early_behind safe p c there = by_bound bound refl
    where
      process : IsProcess words b c.0 c.1
      process = process_at words b tells n bound end cells ws starts world p c there

      any : (xs : List (Event P)) → AreFrom 0 xs
      any [] = tt
      any (x ∷ xs) = (omega arith, any xs)

      counts : (Q : Event P → Type 0) (xs : List (Event P)) → ((x : Event P) → 0 < copies words x xs → Q x) → Each Q xs
      counts Q [] h = tt
      counts Q (x ∷ xs) h = (h x (let one = hit_self words x in omega (arith, one)), counts Q xs (λ y some. h y (omega (arith, some))))

      by_bound : (t : ℕ) → bound ≡ t → AreFrom bound c.1.early
      by_bound zero is = subst (λ t. AreFrom t c.1.early) (sym is) (any c.1.early)
      by_bound (suc last) is =
          let number = number_is words b tells n bound end cells ws starts world p c there in
          let none = (safe b n last (past words b tells n bound end cells ws starts world) (events words b tells n bound end cells ws starts world) (early words b tells n bound end cells ws starts world) (marks words b tells n bound end cells ws starts world) ahead starts (subst (λ t. IsSettled words b t (past words b tells n bound end cells ws starts world) (events words b tells n bound end cells ws starts world) (early words b tells n bound end cells ws starts world) (marks words b tells n bound end cells ws starts world)) is (settled words b tells n bound end cells ws starts world)) (beyond words b tells n bound end cells ws starts world)).none_early in
          counts (λ (x : Event P). bound ≤ x.time) c.1.early (λ x some.
          let own = Each-copy words tells (λ (y : Event P). y.receiver ≡ c.1.number) x c.1.early process.early_own some in
          elim (cases_lt x.time bound) as (λ _. bound ≤ x.time) [
            | inl soon ↦ (
                let zero_copies = none p x (own ∙ number) (omega (arith, soon, is)) in
                let here = ap (λ o. copies words x (early_of o)) (sym there) in
                absurd (omega (arith, zero_copies, here, some)))
            | inr late ↦ late
          ])

module _ {P S : Type 0} (words : P → List ℕ) (tells : TellsApart words) (b : Behaviour P S) (n end : ℕ) (cells : List (Cell P S)) (ws : List (WorkerFace P S)) (ahead : LooksAhead b) (starts : StartsWithin n b) (sends : SendsWithin n b) (world : IsWorld words b n (suc end) end cells ws []) where
  done_at : (p : ℕ) (c : Cell P S) → slice_get cells p ≡ Some c → earlier (suc end) (c.0 ++ c.1.events) ≡ done_of c.0 c.1
  done_at p c there =
      let process = process_at words b tells n (suc end) end cells ws starts world p c there in
      let ready = ready_at words b tells n (suc end) end cells ws starts world p c there in
      let committed = ready.committed in
      let past_soon = earlier_all (suc end) c.0 (Each-weaker (λ (e : Event P). e.time < bound_of c.1.last) (λ (e : Event P). e.time < suc end) (λ e soon. omega (arith, soon, committed)) c.0 process.committed) in
      let ran_soon = earlier_all (suc end) (ran_of c.1) (Each-weaker (λ (e : Event P). e.time ≤ end) (λ (e : Event P). e.time < suc end) (λ e soon. omega (arith, soon)) (ran_of c.1) ready.until) in
      let rest_late = earlier_none (suc end) (to_run c.1) ready.pending in
      let early = λ (e : Event P). nat_lt e.time (suc end) in
      let events_split : earlier (suc end) c.1.events ≡ ran_of c.1 = ap (earlier (suc end)) (sym (take-append-drop (length c.1.marks) c.1.events)) ∙ filter-++ early (ran_of c.1) (to_run c.1) ∙ ap (λ l. l ++ earlier (suc end) (to_run c.1)) ran_soon ∙ ap (λ l. ran_of c.1 ++ l) rest_late ∙ append-nil (ran_of c.1) in
      filter-++ early c.0 c.1.events ∙ ap (λ l. l ++ earlier (suc end) c.1.events) past_soon ∙ ap (λ l. c.0 ++ l) events_split

  abbrev done_cells : List (Cell P S)
  done_cells = map (λ (c : Cell P S). (done_of c.0 c.1, c.1)) cells

  module _ (sound : SequentialIsSound words S) (safe : BoundIsSafe words S) (none : NothingBeyond words S) where
    the_end : EndsAsSequential words b n end (λ p. past words b tells n (suc end) end cells ws starts world p ++ events words b tells n (suc end) end cells ws starts world p)
    the_end = (safe b n end (past words b tells n (suc end) end cells ws starts world) (events words b tells n (suc end) end cells ws starts world) (early words b tells n (suc end) end cells ws starts world) (marks words b tells n (suc end) end cells ws starts world) ahead starts (settled words b tells n (suc end) end cells ws starts world) (beyond words b tells n (suc end) end cells ws starts world)).sequential

    abbrev run : Run P S
    run = sequential words b n end the_end.0

    done_is : (p : ℕ) (c : Cell P S) → slice_get cells p ≡ Some c → done_of c.0 c.1 ≡ those_for p run.ran
    done_is p c there = sym (done_at p c there) ∙ ap (λ o. earlier (suc end) (past_of o ++ events_of o)) (sym there) ∙ the_end.2.history p

    cell_at : (p : ℕ) → p < n → (c : Cell P S) × (slice_get cells p ≡ Some c)
    cell_at p less = found cells p (let count = (all_cells words b tells n (suc end) end cells ws starts world).count in omega (arith, count, less))
      where
        found : {X : Type 0} (xs : List X) (k : ℕ) → k < length xs → (x : X) × (slice_get xs k ≡ Some x)
        found [] k less = absurd (omega (arith, less))
        found (x ∷ xs) zero less = (x, refl)
        found (x ∷ xs) (suc k) less = found xs k (omega (arith, less))

    all_done : total (λ (c : Cell P S). length (done_of c.0 c.1)) cells ≡ length run.ran
    all_done =
        let follows = (sound b n end the_end.0 ahead starts).follows in
        let sum = counted run.ran 0 cells (all_cells words b tells n (suc end) end cells ws starts world).numbered (λ k c there. done_is k c there ∙ ap (λ q. those_for q run.ran) (let e : k ≡ 0 + k = omega arith in e)) in
        let all = ap (λ k. sum_those 0 k run.ran) (all_cells words b tells n (suc end) end cells ws starts world).count in
        sum ∙ all ∙ sum_all n run.ran (ran_within words tells none b n run sends follows)

    pub end_too_long : 2 ^ 64 ≤ total (λ (c : Cell P S). length (done_of c.0 c.1)) cells → IsHalfTooLong words b n end
    end_too_long many = record { steps = the_end.0; many = inl (let all = all_done in omega (arith, many, all)) }

    -- all that is done is the run in order, and so are the states after it
    pub is_end : (states : List S) (count : ℕ) → HasEnded words b cells [] states count None → IsEnd words b n end states count
    is_end states count ended = record {
      steps = the_end.0;
      over = the_end.1;
      count = ap length ended.states ∙ mapped_long (λ (c : Cell P S). state_after b c.1.number (done_of c.0 c.1)) cells ∙ (all_cells words b tells n (suc end) end cells ws starts world).count;
      state = λ p less.
          let at = cell_at p less in
          let c = at.0 in
          let number = number_is words b tells n (suc end) end cells ws starts world p c at.1 in
          ap (λ l. slice_get l p) ended.states ∙ slice_get-map (λ (d : Cell P S). state_after b d.1.number (done_of d.0 d.1)) cells p ∙ ap (option_map (λ (d : Cell P S). state_after b d.1.number (done_of d.0 d.1))) at.1
          ∙ ap (λ q. Some (state_after b q (done_of c.0 c.1))) number ∙ ap (λ l. Some (state_after b p l)) (sym (done_at p c at.1)) ∙ ap (λ o. Some (state_after b p (earlier (suc end) (past_of o ++ events_of o)))) (sym at.1) ∙ ap Some (the_end.2.state p);
      number = ended.count ∙ all_done;
      sound = λ k p few less.
          let at = cell_at p less in
          let c = at.0 in
          let number = number_is words b tells n (suc end) end cells ws starts world p c at.1 in
          let then = (sound b n end k ahead starts).follows.states p in
          let grows = subst (λ j. Grows words b (sequential words b n end k).ran (sequential words b n end j).ran) (let e : (the_end.0 - k) + k ≡ the_end.0 = omega (arith, few) in e) (ran_grows words b n end k (the_end.0 - k)) in
          let old = those_for p (sequential words b n end k).ran in
          let front : take (length old) (done_of c.0 c.1) ≡ old = ap (take (length old)) (done_is p c at.1) ∙ those_grow words b p (sequential words b n end k).ran run.ran grows in
          let fewer = those_fewer words b p (sequential words b n end k).ran run.ran grows in
          let long = ap length (done_is p c at.1) in
          let there : slice_get done_cells p ≡ Some (done_of c.0 c.1, c.1) = slice_get-map (λ (d : Cell P S). (done_of d.0 d.1, d.1)) cells p ∙ ap (option_map (λ (d : Cell P S). (done_of d.0 d.1, d.1))) at.1 in
          let fine = Each-at (λ (d : Cell P S). (j : ℕ) → j ≤ length d.0 → b.faulty (state_after b d.1.number (take j d.0)) ≡ false) done_cells p (done_of c.0 c.1, c.1) ended.failed there (length old) (omega (arith, fewer, long)) in
          ap b.faulty (then ∙ ap (state_after b p) (sym front) ∙ ap (λ q. state_after b q (take (length old) (done_of c.0 c.1))) (sym number)) ∙ fine;
    }

  -- a failure in what is done is one of the run in order
  pub end_failure_real : StatesAreReal words S → (p : ℕ) → TellsFailed words b done_cells (Some p) → FaultsAt words b n end p
  end_failure_real real p failed =
      let i = failed.0 in
      let from = mapped_at (λ (c : Cell P S). (done_of c.0 c.1, c.1)) cells i failed.1 failed.2 in
      let c = from.0 in
      let there = from.1 in
      let number = number_is words b tells n (suc end) end cells ws starts world i c there in
      let k = failed.4.0 in
      let done : done_of c.0 c.1 ≡ failed.1.0 = ap (λ (d : Cell P S). d.0) from.2 in
      let face : c.1 ≡ failed.1.1 = ap (λ (d : Cell P S). d.1) from.2 in
      let at : i ≡ p = sym number ∙ ap (λ (f : ProcessFace P S). f.number) face ∙ failed.3 in
      subst (FaultsAt words b n end) at (fault_real words tells b n (suc end) end cells ws ahead starts world real end k i c (take k (done_of c.0 c.1)) refl (omega arith) there (ap (take k) (done_at i c there))
      (ap (λ q. b.faulty (state_after b q (take k (done_of c.0 c.1)))) at ∙ ap (λ l. b.faulty (state_after b p (take k l))) done ∙ failed.4.2))
