-- Where a worker stands within a round: its messages, and what its processes are still to run.
use Rattle.std.proofs.Common.{◌≡◌, ℕ, zero, suc, ◌+◌, ◌<◌, ◌≤◌, inl, inr, true, Some, None, List, [], ◌∷◌, ◌++◌, length, take, drop, slice_get, refl, ap, sym, subst, ◌∙◌, arith}
use Rattle.std.proofs.lemmas.Bool.{cases_lt}
use Rattle.warp_base.specs.declared.event.Event.{Event}
use Rattle.warp_base.specs.declared.event.Message.{Message}
use Rattle.warp_base.specs.Events.{Each, precedes, copies, IsInOrder, AreFrom}
use Rattle.warp_base.specs.Messages.{event_of, positives, negatives}
use Rattle.warp_base.specs.Histories.{Behaviour, SendsWithin, all_sent}
use Rattle.warp_base.specs.Laws.{NothingBeyond}
use Rattle.warp_base.proofs.Lists.{Each-append, Each-back, Each-weaker}
use Rattle.warp_base.proofs.Orders.{TellsApart, Each-copy, precedes_time, in_order_back, in_order_drop}
use Rattle.warp_process.specs.Processes.{ProcessFace, IsProcess, HasPosted, HasCommitted, done_of}
use Rattle.warp_process.specs.Laws.{SentIsKept}
use Rattle.warp_worker.specs.Workers.{WorkerFace, Cell, past_of, AreNumbered, IsWorker, IsArrival, IsDeparture, ran_of, to_run}
use Rattle.warp_worker.specs.Moves.{has, owes, HasMoved, Moves, next_of, IsPendingFrom}

Each-both : {X : Type 0} (Q R T : X → Type 0) → ((x : X) → Q x → R x → T x) → (xs : List X) → Each Q xs → Each R xs → Each T xs
Each-both Q R T tells [] h g = tt
Each-both Q R T tells (x ∷ xs) h g = (tells x h.0 g.0, Each-both Q R T tells xs h.1 g.1)

drop_at : {X : Type 0} (xs : List X) (k : ℕ) (x : X) → slice_get xs k ≡ Some x → drop k xs ≡ x ∷ drop (suc k) xs
drop_at [] k x there = absurd cc
drop_at (y ∷ xs) zero x there = let is : y ≡ x = cc in ap (λ z. z ∷ xs) is
drop_at (y ∷ xs) (suc k) x there = drop_at xs k x there

take_at : {X : Type 0} (xs : List X) (k : ℕ) (x : X) → slice_get xs k ≡ Some x → take (suc k) xs ≡ take k xs ++ x ∷ []
take_at [] k x there = absurd cc
take_at (y ∷ xs) zero x there = let is : y ≡ x = cc in ap (λ z. z ∷ []) is
take_at (y ∷ xs) (suc k) x there = ap (λ l. y ∷ l) (take_at xs k x there)

drop_none : {X : Type 0} (xs : List X) (k : ℕ) → slice_get xs k ≡ None → drop k xs ≡ []
drop_none [] zero there = refl
drop_none [] (suc k) there = refl
drop_none (y ∷ xs) zero there = absurd cc
drop_none (y ∷ xs) (suc k) there = drop_none xs k there

drop_past : {X : Type 0} (k a : ℕ) (xs ys : List X) → a + length xs ≡ k → drop k (xs ++ ys) ≡ drop a ys
drop_past k a [] ys is = ap (λ n. drop n ys) (let e : k ≡ a = omega (arith, is) in e)
drop_past zero a (x ∷ xs) ys is = absurd (omega (arith, is))
drop_past (suc k) a (x ∷ xs) ys is = drop_past k a xs ys (omega (arith, is))

take_past : {X : Type 0} (k a : ℕ) (xs ys : List X) → a + length xs ≡ k → take k (xs ++ ys) ≡ xs ++ take a ys
take_past k a [] ys is = ap (λ n. take n ys) (let e : k ≡ a = omega (arith, is) in e)
take_past zero a (x ∷ xs) ys is = absurd (omega (arith, is))
take_past (suc k) a (x ∷ xs) ys is = ap (λ l. x ∷ l) (take_past k a xs ys (omega (arith, is)))

module _ {P S : Type 0} where
  pub arrivals_stay : (bound : ℕ) (w v : WorkerFace P S) (ms : List (Message P)) → v.first ≡ w.first → length v.processes ≡ length w.processes → Each (IsArrival bound w) ms → Each (IsArrival bound v) ms
  arrivals_stay bound w v ms first count h =
      Each-weaker (IsArrival bound w) (IsArrival bound v) (λ m is. record {
        time = is.time;
        above = let up = is.above in omega (arith, first, up);
        below = let less = is.below in omega (arith, first, count, less);
      }) ms h

  -- the next event, and what is to be run behind it
  pub next_first : (f : ProcessFace P S) (e : Event P) → next_of f ≡ Some e → to_run f ≡ e ∷ drop (suc (length f.marks)) f.events
  next_first f e there = drop_at f.events (length f.marks) e there

  pub no_next : (f : ProcessFace P S) → next_of f ≡ None → to_run f ≡ []
  no_next f there = drop_none f.events (length f.marks) there

  pub next_late : (t : ℕ) (f : ProcessFace P S) (e : Event P) → next_of f ≡ Some e → IsPendingFrom t f → t ≤ e.time
  next_late t f e there h = (subst (AreFrom t) (next_first f e there) h).0

  -- one event more is run
  module _ (f g : ProcessFace P S) (e : Event P) (there : next_of f ≡ Some e) (events : g.events ≡ f.events) (marks : length g.marks ≡ length f.marks + 1) where
    rest : to_run g ≡ drop (suc (length f.marks)) f.events
    rest = ap (λ l. drop (length g.marks) l) events ∙ ap (λ n. drop n f.events) (let e : length g.marks ≡ suc (length f.marks) = omega (arith, marks) in e)

    pub run_pending : (t : ℕ) → IsPendingFrom t f → IsPendingFrom t g
    run_pending t h = subst (AreFrom t) (sym rest) (subst (AreFrom t) (next_first f e there) h).1

    pub run_fewer : length (to_run g) + 1 ≡ length (to_run f)
    run_fewer = let old = ap length (next_first f e there) in let new = ap length rest in omega (arith, old, new)

    pub run_until : (end : ℕ) → e.time ≤ end → Each (λ (x : Event P). x.time ≤ end) (ran_of f) → Each (λ (x : Event P). x.time ≤ end) (ran_of g)
    run_until end soon h =
        let is : ran_of g ≡ ran_of f ++ e ∷ [] = ap (λ l. take (length g.marks) l) events ∙ ap (λ n. take n f.events) (let e : length g.marks ≡ suc (length f.marks) = omega (arith, marks) in e) ∙ take_at f.events (length f.marks) e there in
        subst (Each (λ (x : Event P). x.time ≤ end)) (sym is) (Each-append (λ (x : Event P). x.time ≤ end) (ran_of f) (e ∷ []) h (soon, tt))

module _ {P S : Type 0} (words : P → List ℕ) where
  -- nothing to be run is before the next event
  pub next_is_least : (b : Behaviour P S) (past : List (Event P)) (f : ProcessFace P S) (e : Event P) → IsProcess words b past f → next_of f ≡ Some e → IsPendingFrom e.time f
  next_is_least b past f e h there =
      let order = in_order_drop words (length f.marks) f.events (in_order_back words past f.events h.in_order) in
      let first = subst (IsInOrder words) (next_first f e there) order in
      let behind = drop (suc (length f.marks)) f.events in
      subst (AreFrom e.time) (sym (next_first f e there)) (omega arith, Each-weaker (λ x. precedes words e x ≡ true) (λ (x : Event P). e.time ≤ x.time) (λ x before. precedes_time words e x before) behind first.0)

  -- committing leaves what is to be run, and takes away the first of what was run
  module _ (time : ℕ) (f g : ProcessFace P S) (out new_out : List (Event P)) (done : HasCommitted words time f g out new_out) where
    pub commit_to_run : to_run f ≡ to_run g
    commit_to_run = ap (λ l. drop (length f.marks) l) done.whole ∙ drop_past (length f.marks) (length g.marks) done.gone g.events done.marks

    pub commit_ran : ran_of f ≡ done.gone ++ ran_of g
    commit_ran = ap (λ l. take (length f.marks) l) done.whole ∙ take_past (length f.marks) (length g.marks) done.gone g.events done.marks

  -- what a process posts is for one of n processes
  module _ (tells : TellsApart words) (b : Behaviour P S) (kept : SentIsKept words S) (beyond : NothingBeyond words S) where
    within : (n : ℕ) (past : List (Event P)) (f : ProcessFace P S) → SendsWithin n b → IsProcess words b past f → Each (λ (e : Event P). e.receiver < n) f.sent
    within n past f sends h =
        Each-back (λ (e : Event P). e.receiver < n) (all_sent b f.number past) f.sent (subst (Each (λ (e : Event P). e.receiver < n)) (kept b past f h) (beyond b n f.number (done_of past f) sends))

    pub departures : (n bound time : ℕ) (past : List (Event P)) (f g : ProcessFace P S) (out new_out : List (Message P)) → SendsWithin n b → bound ≤ time → IsProcess words b past f → IsProcess words b past g → (posted : HasPosted words time f.sent g.sent out new_out) → Each (IsDeparture bound n) posted.more
    departures n bound time past f g out new_out sends late h new_h posted =
        Each-both (λ (m : Message P). time < (event_of m).time) (λ (m : Message P). 0 < copies words (event_of m) f.sent + copies words (event_of m) g.sent) (IsDeparture bound n) (λ m later some. record {
          later = omega (arith, late, later);
          within = elim (cases_lt 0 (copies words (event_of m) f.sent)) [
            | inl there ↦ Each-copy words tells (λ (e : Event P). e.receiver < n) (event_of m) f.sent (within n past f sends h) there
            | inr none ↦ Each-copy words tells (λ (e : Event P). e.receiver < n) (event_of m) g.sent (within n past g sends new_h) (omega (arith, none, some))
          ];
        }) posted.more posted.later posted.own

-- moves one after the other
module _ {P S : Type 0} (words : P → List ℕ) (b : Behaviour P S) where
  pub add_up : (x0 o0 x1 o1 x2 o2 : ℕ) → x1 + o0 ≡ x0 + o1 → x2 + o1 ≡ x1 + o2 → x2 + o0 ≡ x0 + o2
  add_up x0 o0 x1 o1 x2 o2 one two = omega (arith, one, two)

  moved_then : (keep : Cell P S → List (Event P)) (u v w : WorkerFace P S) (us vs ws : List (Message P)) → ((cells : List (Cell P S)) → IsWorker words b cells u → HasMoved keep words b cells u us v vs) → ((cells : List (Cell P S)) → IsWorker words b cells v → HasMoved keep words b cells v vs w ws) → (cells : List (Cell P S)) → IsWorker words b cells u → HasMoved keep words b cells u us w ws
  moved_then keep u v w us vs ws one two cells h =
      let first = one cells h in
      let next = two first.new_cells first.worker in
      record {
        new_cells = next.new_cells;
        worker = next.worker;
        kept = next.kept ∙ first.kept;
        balance = λ e. add_up (has words e cells u us) (owes words b e cells u us) (has words e first.new_cells v vs) (owes words b e first.new_cells v vs) (has words e next.new_cells w ws) (owes words b e next.new_cells w ws) (first.balance e) (next.balance e);
      }

  pub moves_then : (u v w : WorkerFace P S) (us vs ws : List (Message P)) → Moves words b u us v vs → Moves words b v vs w ws → Moves words b u us w ws
  moves_then = moved_then past_of

  -- messages that only change their place
  pub moves_letters : (u v : WorkerFace P S) (us vs : List (Message P)) → v.processes ≡ u.processes → v.first ≡ u.first
      → ((e : Event P) → positives words e v.inbox + positives words e vs + positives words e v.outbox ≡ positives words e u.inbox + positives words e us + positives words e u.outbox)
      → ((e : Event P) → negatives words e v.inbox + negatives words e vs + negatives words e v.outbox ≡ negatives words e u.inbox + negatives words e us + negatives words e u.outbox)
      → Moves words b u us v vs
  moves_letters u v us vs processes first pos neg cells h = record {
    new_cells = cells;
    worker = record { faces = h.faces ∙ sym processes; are = h.are; numbered = subst (λ k. AreNumbered k v.processes) (sym first) (subst (AreNumbered u.first) (sym processes) h.numbered) };
    kept = refl;
    balance = λ e. let p = pos e in let n = neg e in omega (arith, p, n);
  }
