-- What a process over an object comes to, where an event was run on the object, and where the object was brought back
-- to a log.
use Rattle.std.proofs.Common.{◌≡◌, ℕ, suc, ◌+◌, ◌-◌, ◌<◌, ◌≤◌, inl, inr, false, Option, Some, None}
use Rattle.std.proofs.Common.{List, [], ◌∷◌, ◌++◌, length, take, drop, map, slice_get, refl, ap, sym, subst}
use Rattle.std.proofs.Common.{◌∙◌, arith, length-append}
use Rattle.std.proofs.lemmas.Option.{same_Some, none-some, get_or_from_slice_get, slice_get_cases, slice_get_past}
use Rattle.std.proofs.lemmas.List.{take_more, take_all, append-nil, drop-append-le, map-append}
use Rattle.std.proofs.Math.Seq.{take-append-add, drop-append_seam}
use Rattle.dym_base.specs.Heaps.{Live}
use Rattle.dym_base.specs.Objects.{ObjectState, restore}
use Rattle.dym_undo_object.specs.Meaning.{UndoObjectMeaning, state_of}
use Rattle.warp_base.specs.declared.event.Draft.{Draft}
use Rattle.warp_base.specs.declared.event.Event.{Event}
use Rattle.warp_base.specs.Events.{Each}
use Rattle.warp_base.specs.Histories.{Behaviour, LooksAhead, state_after}
use Rattle.warp_base.proofs.Folds.{state_after-push}
use Rattle.warp_base.proofs.Lists.{Each-back, Each-weaker}
use Rattle.warp_process.specs.Savers.{IsNewest}
use Rattle.warp_process.specs.Processes.{ProcessFace, IsProcess, IsCopy, done_of}
use Rattle.warp_process.proofs.Catching.{all_older, copy_bounds}
use Rattle.warp_process.proofs.Runs.{get_take, get_behind}
use Rattle.warp_process.proofs.Steps.{length-done}
use Rattle.warp_object.specs.declared.moment.Moment.{Moment}
use Rattle.warp_object.specs.Moments.{moment, dated}
use Rattle.warp_object.specs.Processes.{IsFaceOf, IsKnown, log_pair, copy_pair, copies_of, date_of}
use Rattle.warp_object.specs.Processes.{HandsOut, event_after}
use Rattle.warp_object.proofs.Behaviours.{dated_after}
use Rattle.warp_object.proofs.Ledgers.{Each_map}
use Rattle.warp_object.proofs.Logs.{IsRestored, restored_is}

module _ {P S : Type 0} (words : P → List ℕ) (b : Behaviour P S) (past : List (Event P)) (f : ProcessFace P S)
    (h : IsProcess words b past f) where
  -- the event at a date is the one that was run there
  pub event_done : (n : ℕ) (e : Event P) → f.first_date ≤ n → n < date_of f → event_after f n ≡ Some e
      → slice_get (done_of past f) n ≡ Some e
  event_done n e late soon there =
      let ran = take (length f.marks) f.events in
      let done = done_of past f in
      let dates = h.dates in
      let n_is : f.first_date + (n - f.first_date) ≡ n = omega (arith, late) in
      let begin : drop f.first_date done ≡ f.fossils ++ ran = drop-append-le f.first_date past ran (omega (arith, dates)) ∙ ap (λ l. l ++ ran) (sym h.fossils) in
      let front : f.fossils ++ ran ≡ take (length f.fossils + length f.marks)
      (f.fossils ++ f.events) = sym (take-append-add f.fossils f.events (length f.marks)) in
      ap (slice_get done) (sym n_is) ∙ sym (get_behind done f.first_date (n - f.first_date))
      ∙ ap (λ l. slice_get l (n - f.first_date)) (begin ∙ front)
      ∙ get_take (f.fossils ++ f.events) (length f.fossils + length f.marks) (n - f.first_date)
      (omega (arith, late, soon)) ∙ there

  pub date_done : date_of f ≡ length (done_of past f)
  date_done = let long = length-done words b past f h in let dates = h.dates in omega (arith, long, dates)

module _ {P : Type 0} (words : P → List ℕ) (f : ProcessFace P Moment) (n : ℕ) where
  -- an event was run again
  pub replayed_of : (b : Behaviour P Live) (past : List (Event P)) (begun o : UndoObjectMeaning) (e : Event P)
      → f.first_date ≤ n → n < date_of f → event_after f n ≡ Some e → o.logs ≡ begun.logs
      → o.heap.state.live ≡ b.after f.number begun.heap.state.live e → IsFaceOf words b past begun f (Some n)
      → IsFaceOf words b past o f (Some (n + 1))
  replayed_of b past begun o e late soon there logs live h =
      let done = done_of past f in
      let read = event_done words (dated b) past f h.process n e late soon there in
      let date = date_done words (dated b) past f h.process in
      let next : take (n + 1) done ≡ take n done ++ e ∷ [] = take_more done n e (omega (arith, soon, date))
      ∙ ap (λ x. take n done ++ x ∷ []) (get_or_from_slice_get done n e e read) in
      record {
        process = h.process;
        logs = record {
          undone = h.logs.undone;
          logs = ap (λ l. map log_pair l) logs ∙ h.logs.logs;
          behind = h.logs.behind;
          none = λ r at. h.logs.none n refl;
        };
        state = λ r at.
            let r_is : n + 1 ≡ r = same_Some (n + 1) r at in
            live ∙ ap (λ s. b.after f.number s e) (h.state n refl) ∙ sym (state_after-push b f.number (take n done) e)
            ∙ ap (state_after b f.number) (sym next) ∙ ap (λ k. state_after b f.number (take k done)) r_is;
      }

  pub replayed_known : n < date_of f → IsKnown words f (Some n) → IsKnown words f (Some (n + 1))
  replayed_known soon h = record {
    behaviour = h.behaviour;
    past = h.past;
    looks_ahead = h.looks_ahead;
    starts = h.starts;
    counts = h.counts;
    faultless = h.faultless;
    process = h.process;
    late = λ r at.
        let r_is = same_Some (n + 1) r at in
        Each-weaker (λ (c : ℕ × Moment). c.0 ≤ n) (λ (c : ℕ × Moment). c.0 ≤ r)
        (λ c few. omega (arith, few, r_is)) f.copies (h.late n refl);
    soon = λ r at. let r_is = same_Some (n + 1) r at in omega (arith, r_is, soon);
    fresh = λ fresh. let is = same_Some n (date_of f) (h.fresh fresh) in absurd (omega (arith, is, soon));
  }

-- a behaviour whose states know how many events led to them
pub record IsKnownBy {P : Type 0} (b : Behaviour P Moment) : Type 0 where
  pub looks_ahead : LooksAhead b
  pub starts : (n : ℕ) → (b.start n).seen.0 ≡ 0
  pub counts : (n : ℕ) (m : Moment) (e : Event P) → (b.after n m e).seen.0 ≡ suc m.seen.0
  pub faultless : (m : Moment) → b.faulty m ≡ false

-- the oldest copy isn't later than what is reached
pub oldest_reached : {P : Type 0} (words : P → List ℕ) (f : ProcessFace P Moment) (reached : Option ℕ) (n : ℕ)
    → IsKnown words f reached → reached ≡ Some n → f.first_date ≤ n
oldest_reached words f reached n h at =
    let copies = h.process.oldest.2 in
    (subst (Each (λ (c : ℕ × Moment). c.0 ≤ n)) copies (h.late n at)).0

module _ {P : Type 0} (words : P → List ℕ) (f g : ProcessFace P Moment) (date : ℕ) (date_is : date ≡ date_of f)
    (next : date_of g ≡ date + 1) (same : g.copies ≡ f.copies) where
  -- the next event was run
  pub ran_of : (b : Behaviour P Live) (past : List (Event P)) (begun o : UndoObjectMeaning) → o.logs ≡ begun.logs
      → g.is_stale ≡ false → g.state.seen ≡ (date + 1, o.heap.state.live) → IsProcess words (dated b) past g
      → IsFaceOf words b past begun f (Some date) → IsFaceOf words b past o g (Some (date + 1))
  ran_of b past begun o logs fresh state now h =
      let done = done_of past g in
      let all = date_done words (dated b) past g now in
      let none = h.logs.none date refl in
      record {
        process = now;
        logs = record {
          undone = [];
          logs = ap (λ l. map log_pair l) logs ∙ h.logs.logs ∙ ap (λ l. copies_of f ++ l) none
              ∙ ap (λ l. map copy_pair l ++ []) (sym same);
          behind = tt;
          none = λ r at. refl;
        };
        state = λ r at.
            let r_is = same_Some (date + 1) r at in
            sym (ap (λ (c : ℕ × Live). c.1) state) ∙ ap (λ (m : Moment). m.seen.1)
            (now.state fresh ∙ dated_after b g.number done)
            ∙ ap (state_after b g.number) (sym (take_all r done (omega (arith, r_is, all, next))));
      }

  pub ran_known : (h : IsKnown words f (Some date)) (b : Behaviour P Moment) (past : List (Event P)) → IsKnownBy b
      → IsProcess words b past g → IsKnown words g (Some (date + 1))
  ran_known h b past known now = record {
    behaviour = b;
    past = past;
    looks_ahead = known.looks_ahead;
    starts = known.starts;
    counts = known.counts;
    faultless = known.faultless;
    process = now;
    late = λ r at.
        let r_is = same_Some (date + 1) r at in
        subst (Each (λ (c : ℕ × Moment). c.0 ≤ r)) (sym same)
        (Each-weaker (λ (c : ℕ × Moment). c.0 ≤ date) (λ (c : ℕ × Moment). c.0 ≤ r)
        (λ c few. omega (arith, few, r_is)) f.copies (h.late date refl));
    soon = λ r at. let r_is = same_Some (date + 1) r at in omega (arith, r_is, next);
    fresh = λ fresh. ap Some (sym next);
  }

module _ {P : Type 0} (words : P → List ℕ) (f : ProcessFace P Moment) (newest : ℕ) (s : Moment)
    (is : IsNewest f.copies newest s) where
  copies_soon : (b : Behaviour P Moment) (past : List (Event P)) → IsProcess words b past f
      → Each (λ (c : ℕ × Moment). c.0 ≤ newest) f.copies
  copies_soon b past h =
      Each-weaker (λ (c : ℕ × Moment). c.0 < newest + 1) (λ (c : ℕ × Moment). c.0 ≤ newest)
      (λ c less. omega (arith, less)) f.copies (all_older words b past f h newest (newest + 1) s is (omega arith))

  -- the newest log of the object is the newest copy
  pub brought_back : (b : Behaviour P Live) (past : List (Event P)) (old : UndoObjectMeaning)
      → IsFaceOf words b past old f None → IsRestored (state_of old) newest s.seen.1 (copies_of f)
  brought_back b past old h =
      let cs = copies_of f in
      let older = map copy_pair is.older in
      let soon = copies_soon (dated b) past h.process in
      let bounds = copy_bounds words (dated b) past f h.process newest s is in
      let within = bounds.soon in
      let last : cs ≡ older ++ (newest, s.seen.1) ∷ [] = ap (map copy_pair) is.last
      ∙ map-append copy_pair is.older ((newest, s) ∷ []) in
      restored_is (state_of old) newest s.seen.1 older cs h.logs.undone h.logs.logs last
      (Each_map copy_pair (λ (c : ℕ × Live). c.0 ≤ newest) f.copies soon)
      (Each-weaker (λ (c : ℕ × Live). date_of f < c.0) (λ (c : ℕ × Live). newest < c.0)
      (λ c more. omega (arith, more, within)) h.logs.undone h.logs.behind)

  -- the object was brought back to the newest log
  pub restored_of : (b : Behaviour P Live) (past : List (Event P)) (old o : UndoObjectMeaning)
      → state_of o ≡ (restore (state_of old) newest).object → IsFaceOf words b past old f None
      → IsFaceOf words b past o f (Some newest)
  restored_of b past old o step h =
      let back = brought_back b past old h in
      let copy = (Each-back (IsCopy (dated b) f.number (done_of past f)) is.older ((newest, s) ∷ [])
      (subst (Each (IsCopy (dated b) f.number (done_of past f))) is.last h.process.kept)).0 in
      let front = take newest (done_of past f) in
      let live : s.seen.1 ≡ state_after b f.number front = ap (λ (m : Moment). m.seen.1)
      (copy.1 ∙ dated_after b f.number front) in
      record {
        process = h.process;
        logs = record {
          undone = [];
          logs = ap (λ (t : ObjectState). map log_pair t.logs) step ∙ back.logs ∙ sym (append-nil (copies_of f));
          behind = tt;
          none = λ r at. refl;
        };
        state = λ r at.
            ap (λ (t : ObjectState). t.heap.live) step ∙ back.live ∙ live
            ∙ ap (λ k. state_after b f.number (take k (done_of past f))) (same_Some newest r at);
      }

  pub restored_known : IsKnown words f None → IsKnown words f (Some newest)
  restored_known h = record {
    behaviour = h.behaviour;
    past = h.past;
    looks_ahead = h.looks_ahead;
    starts = h.starts;
    counts = h.counts;
    faultless = h.faultless;
    process = h.process;
    late = λ r at. subst (λ k. Each (λ (c : ℕ × Moment). c.0 ≤ k) f.copies) (same_Some newest r at)
        (copies_soon h.behaviour h.past h.process);
    soon = λ r at.
        let bounds = copy_bounds words h.behaviour h.past f h.process newest s is in
        let within = bounds.soon in
        let r_is = same_Some newest r at in
        omega (arith, within, r_is);
    fresh = λ fresh. absurd (none-some (date_of f) (h.fresh fresh));
  }

-- one event alone is handed out
pub one_event : {P : Type 0} (f : ProcessFace P Moment) (reached : Option ℕ) (processes : ℕ) (drafts : List (Draft P))
    (out : HandsOut f reached processes drafts) (n : ℕ) (e : Event P) → reached ≡ Some n → event_after f n ≡ Some e
    → out.event ≡ e
one_event f reached processes drafts out n e at is =
    same_Some out.event e (sym out.is ∙ ap (event_after f) (same_Some out.count n (sym out.at ∙ at)) ∙ is)

-- the next event stands behind the events that are run
pub next_there : {P S : Type 0} (f : ProcessFace P S) (n : ℕ) → date_of f ≡ n
    → slice_get f.events (length f.marks) ≡ event_after f n
next_there f n at =
    let place : length f.fossils + length f.marks ≡ n - f.first_date = omega (arith, at) in
    ap (λ l. slice_get l (length f.marks)) (sym (drop-append_seam f.fossils f.events))
    ∙ get_behind (f.fossils ++ f.events) (length f.fossils) (length f.marks)
    ∙ ap (slice_get (f.fossils ++ f.events)) place

none_past : {X : Type 0} (xs : List X) (k : ℕ) → slice_get xs k ≡ None → length xs ≤ k
none_past xs k none =
    elim (slice_get_cases xs k).1 as (λ _. length xs ≤ k) [
      | inl found ↦ absurd (none-some found.0 (sym none ∙ found.2))
      | inr past ↦ past.0
    ]

-- nothing is to be run
pub record IsAtEnd {P S : Type 0} (f : ProcessFace P S) (n : ℕ) : Type 0 where
  pub date : n ≡ date_of f
  pub none : slice_get f.events (length f.marks) ≡ None

-- where no event follows those that are reached, none is to be run
pub at_end : {P S : Type 0} (words : P → List ℕ) (b : Behaviour P S) (past : List (Event P)) (f : ProcessFace P S)
    → IsProcess words b past f → (n : ℕ) → f.first_date ≤ n → n ≤ date_of f → event_after f n ≡ None → IsAtEnd f n
at_end words b past f h n late soon none =
    let few = h.ran_within in
    let all = length-append f.fossils f.events in
    let long = none_past (f.fossils ++ f.events) (n - f.first_date) none in
    record {
      date = omega (arith, few, all, long, late, soon);
      none = slice_get_past f.events (length f.marks) (omega (arith, few, all, long, late, soon));
    }

module _ {P : Type 0} (words : P → List ℕ) (b : Behaviour P Live) (past : List (Event P)) (f : ProcessFace P Moment)
    (h : IsProcess words (dated b) past f) (n : ℕ) (date : n ≡ date_of f) (begun : Live) where
  all_done : take n (done_of past f) ≡ done_of past f
  all_done = let all = date_done words (dated b) past f h in take_all n (done_of past f) (omega (arith, date, all))

  -- what the next event leaves and sends, where these are the chunks before it
  pub dated_next : (live : Live) (e : Event P) → begun ≡ state_after b f.number (take n (done_of past f))
      → live ≡ b.after f.number begun e
      → moment (n + 1) live ≡ (dated b).after f.number (state_after (dated b) f.number (done_of past f)) e
  dated_next live e before is =
      let done = done_of past f in
      let all = date_done words (dated b) past f h in
      let now = state_after b f.number done in
      let count : n + 1 ≡ suc (length done) = omega (arith, date, all) in
      ap (moment (n + 1)) (is ∙ ap (λ s. b.after f.number s e) (before ∙ ap (state_after b f.number) all_done))
      ∙ ap (λ k. moment k (b.after f.number now e)) count
      ∙ ap (λ (m : Moment). moment (suc m.seen.0) (b.after f.number m.seen.1 e)) (sym (dated_after b f.number done))

  pub next_sent : (e : Event P) → begun ≡ state_after b f.number (take n (done_of past f)) → (drafts : List (Draft P))
      → drafts ≡ b.drafts f.number begun e
      → drafts ≡ (dated b).drafts f.number (state_after (dated b) f.number (done_of past f)) e
  next_sent e before drafts is =
      let done = done_of past f in
      is ∙ ap (λ s. b.drafts f.number s e) (before ∙ ap (state_after b f.number) all_done)
      ∙ ap (λ (m : Moment). b.drafts f.number m.seen.1 e) (sym (dated_after b f.number done))
