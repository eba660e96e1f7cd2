-- One process of a worker has gone on: it took a message, ran an event, or committed.
use Rattle.std.proofs.Common.{◌≡◌, ℕ, zero, suc, ◌+◌, ◌<◌, ◌≤◌, Option, Some, List, [], ◌∷◌, ◌++◌, length, map, take, set, get_or, slice_get, refl, ap, sym, subst, ◌∙◌, arith, append_assoc}
use Rattle.std.proofs.lemmas.List.{append-nil, map-set, length-set, length-map}
use Rattle.std.proofs.lemmas.Option.{slice_get_within}
use Rattle.warp_base.specs.declared.event.Event.{Event}
use Rattle.warp_base.specs.declared.event.Message.{Message}
use Rattle.warp_base.specs.Events.{Each, copies, AreFrom}
use Rattle.warp_base.specs.Messages.{event_of, positives, negatives}
use Rattle.warp_base.specs.Histories.{Behaviour, LooksAhead, SendsWithin, all_sent}
use Rattle.warp_base.specs.Laws.{NothingBeyond}
use Rattle.warp_base.proofs.Lists.{Each-append, Each-back, Each-weaker}
use Rattle.warp_base.proofs.Orders.{TellsApart}
use Rattle.warp_process.specs.Processes.{ProcessFace, IsProcess, IsSomeProcess, Stays, UndoesFrom, HasTakenMessage, HasPosted, HasCommitted, bound_of, done_of}
use Rattle.warp_process.specs.Laws.{SentIsKept}
use Rattle.warp_worker.specs.Workers.{WorkerFace, Cell, past_of, history_of, total, IsWorker, IsReady, IsArrival, IsDeparture, ran_of, to_run}
use Rattle.warp_worker.specs.Moves.{HasMoved, Moves, Commits, IsDue, IsMidway, KeepsPending, IsPendingFrom, next_of, all_to_run, all_sent_since}
use Rattle.warp_worker.proofs.Places.{Each-at, Each-set, Each-take-set, total-set, take-set}
use Rattle.warp_worker.proofs.Cells.{cell_at, CellMoves, moved_at, posts, takes, commits}
use Rattle.warp_worker.proofs.Midway.{arrivals_stay, departures, run_pending, run_fewer, run_until, next_late, commit_to_run, commit_ran}

-- what is read at a place, seen through a map
pub get_mapped : {X Y : Type 0} (f : X → Y) (xs : List X) (i : ℕ) (x : X) → i < length xs → x ≡ get_or xs i x → slice_get (map f xs) i ≡ Some (f x)
get_mapped f [] i x less is = absurd (omega (arith, less))
get_mapped f (y ∷ xs) zero x less is = let same : y ≡ x = sym is in ap (λ z. Some (f z)) same
get_mapped f (y ∷ xs) (suc i) x less is = get_mapped f xs i x (omega (arith, less)) is

-- the process at a place is another, and the messages of the worker are as they were
pub record Replaced {P S : Type 0} (w new : WorkerFace P S) (place : ℕ) (f g : ProcessFace P S) : Type 0 where
  pub get : slice_get w.processes place ≡ Some f
  pub put : new.processes ≡ set w.processes place g
  pub first : new.first ≡ w.first
  pub inbox : new.inbox ≡ w.inbox
  pub outbox : new.outbox ≡ w.outbox

module _ {P S : Type 0} (words : P → List ℕ) (b : Behaviour P S) where
  -- the past of the process at a place
  pub process_at : (cells : List (Cell P S)) (w : WorkerFace P S) (place : ℕ) (f : ProcessFace P S) → IsWorker words b cells w → slice_get w.processes place ≡ Some f → (past : List (Event P)) × IsProcess words b past f
  process_at cells w place f h get =
      let c = cell_at cells place f (ap (λ l. slice_get l place) h.faces ∙ get) in
      (c.0.0, subst (IsProcess words b c.0.0) c.2 (Each-at (λ (x : Cell P S). IsProcess words b x.0 x.1) cells place c.0 h.are c.1))

  pub some_process_at : LooksAhead b → (cells : List (Cell P S)) (w : WorkerFace P S) (place : ℕ) (f : ProcessFace P S) → IsWorker words b cells w → slice_get w.processes place ≡ Some f → IsSomeProcess words f
  some_process_at ahead cells w place f h get =
      let p = process_at cells w place f h get in
      record { behaviour = b; past = p.0; looks_ahead = ahead; process = p.1 }

module _ {P S : Type 0} (words : P → List ℕ) (w new : WorkerFace P S) (place : ℕ) (f g : ProcessFace P S) (one : Replaced w new place f g) where
  replaced_count : length new.processes ≡ length w.processes
  replaced_count = ap length one.put ∙ length-set w.processes place g

  -- a fact of each process, if it is one of the new process
  pub replaced_each : (Q : ProcessFace P S → Type 0) → Each Q w.processes → (Q f → Q g) → Each Q new.processes
  replaced_each Q h tells = subst (Each Q) (sym one.put) (Each-set Q w.processes place g h (tells (Each-at Q w.processes place f h one.get)))

  -- and of those up to its place
  pub replaced_before : (Q : ProcessFace P S → Type 0) → Each Q (take place w.processes) → Q g → Each Q (take (place + 1) new.processes)
  replaced_before Q h is =
      subst (λ n. Each Q (take n new.processes)) (let e : suc place ≡ place + 1 = omega arith in e) (subst (λ l. Each Q (take (suc place) l)) (sym one.put) (Each-take-set Q w.processes place g h is))

  pub same_before : take place new.processes ≡ take place w.processes
  same_before = ap (take place) one.put ∙ take-set w.processes place g

  pub replaced_total : (count : ProcessFace P S → ℕ) → total count new.processes + count f ≡ total count w.processes + count g
  replaced_total count = let sum = total-set count w.processes place f g one.get in let is = ap (total count) one.put in omega (arith, sum, is)

  pub replaced_moves : (keep : Cell P S → List (Event P)) (b : Behaviour P S) (next_past : List (Event P) → List (Event P)) (taken mail more new_mail : List (Message P)) → ((past : List (Event P)) → keep (next_past past, g) ≡ keep (past, f)) → ((past : List (Event P)) → IsProcess words b past f → CellMoves words b (past, f) (next_past past, g) taken more) → new_mail ≡ mail ++ more
      → (cells : List (Cell P S)) → IsWorker words b cells w → HasMoved keep words b cells w (taken ++ mail) new new_mail
  replaced_moves keep b next_past taken mail more new_mail same step is cells h =
      let c = cell_at cells place f (ap (λ l. slice_get l place) h.faces ∙ one.get) in
      let past = c.0.0 in
      let process = subst (IsProcess words b past) c.2 (Each-at (λ (x : Cell P S). IsProcess words b x.0 x.1) cells place c.0 h.are c.1) in
      let moves = subst (λ x. CellMoves words b (past, x) (next_past past, g) taken more) (sym c.2) (step past process) in
      let alike = subst (λ x. keep (next_past past, g) ≡ keep (past, x)) (sym c.2) (same past) in
      let all = moved_at words b keep cells w new place c.0 (next_past past, g) taken mail more h c.1 (one.get ∙ ap Some (sym c.2)) alike moves one.put one.first one.inbox one.outbox in
      subst (HasMoved keep words b cells w (taken ++ mail) new) (sym is) all

  -- where the process is due, so is the worker
  pub replaced_midway : (bound end n : ℕ) (mail more new_mail : List (Message P)) → IsMidway bound end n w mail → g.last ≡ f.last → ((t : ℕ) → Each (λ (e : Event P). e.time ≤ t) (ran_of f) → t ≡ end → Each (λ (e : Event P). e.time ≤ t) (ran_of g)) → new_mail ≡ mail ++ more → Each (IsDeparture bound n) more → IsMidway bound end n new new_mail
  replaced_midway bound end n mail more new_mail h last until is leave = record {
    due = replaced_each (IsDue bound end) h.due (λ due. record { committed = ap bound_of last ∙ due.committed; until = until end due.until refl });
    inbox = subst (Each (IsArrival bound new)) (sym one.inbox) (arrivals_stay bound w new w.inbox one.first replaced_count h.inbox);
    mail = subst (Each (IsDeparture bound n)) (sym is) (Each-append (IsDeparture bound n) mail more h.mail leave);
    outbox = subst (Each (IsDeparture bound n)) (sym one.outbox) h.outbox;
  }

  module _ (tells : TellsApart words) (kept : SentIsKept words S) (beyond : NothingBeyond words S) (b : Behaviour P S) (bound end n : ℕ) (sends : SendsWithin n b) (cells : List (Cell P S)) (h : IsWorker words b cells w) where
    -- the process took a message
    module _ (m : Message P) (mail new_mail : List (Message P)) (stays : (past : List (Event P)) → IsProcess words b past f → IsProcess words b past g) (taken : HasTakenMessage words m f g) (undone : UndoesFrom (event_of m).time f g) (posted : HasPosted words (event_of m).time f.sent g.sent mail new_mail) (last : g.last ≡ f.last) (number : g.number ≡ f.number) where
      pub took_moves : Moves words b w (m ∷ mail) new new_mail
      took_moves = replaced_moves past_of b (λ past. past) (m ∷ []) mail posted.more new_mail (λ past. refl) (λ past is. takes words b kept past f g (event_of m).time m mail new_mail is (stays past is) number taken posted) posted.appended

      pub took_midway : IsMidway bound end n w mail → bound ≤ (event_of m).time → IsMidway bound end n new new_mail
      took_midway midway late =
          let p = process_at words b cells w place f h one.get in
          replaced_midway bound end n mail posted.more new_mail midway last (λ t all is. undone.until t all) posted.appended
          (departures words tells b kept beyond n bound (event_of m).time p.0 f g mail new_mail sends late p.1 (stays p.0 p.1) posted)

      pub took_pending : KeepsPending (event_of m).time w new
      took_pending time soon all = replaced_each (IsPendingFrom time) all (λ from. undone.pending time soon from)

    -- the process ran an event
    module _ (e : Event P) (mail new_mail : List (Message P)) (stays : (past : List (Event P)) → IsProcess words b past f → IsProcess words b past g) (there : next_of f ≡ Some e) (events : g.events ≡ f.events) (marks : length g.marks ≡ length f.marks + 1) (early : g.early ≡ f.early) (posted : HasPosted words e.time f.sent g.sent mail new_mail) (last : g.last ≡ f.last) (number : g.number ≡ f.number) where
      pub ran_moves : Moves words b w mail new new_mail
      ran_moves = replaced_moves past_of b (λ past. past) [] mail posted.more new_mail (λ past. refl) (λ past is. posts words b kept past f g e.time [] mail new_mail is (stays past is) number posted (λ x. let some = ap (copies words x) events in let back = ap (copies words x) early in omega (arith, some, back))) posted.appended

      pub ran_midway : IsMidway bound end n w mail → bound ≤ e.time → e.time ≤ end → IsMidway bound end n new new_mail
      ran_midway midway late soon =
          let p = process_at words b cells w place f h one.get in
          replaced_midway bound end n mail posted.more new_mail midway last (λ t all is. run_until f g e there events marks t (let le : e.time ≤ t = omega (arith, soon, is) in le) all) posted.appended
          (departures words tells b kept beyond n bound e.time p.0 f g mail new_mail sends late p.1 (stays p.0 p.1) posted)

      pub ran_pending : (t : ℕ) → Each (IsPendingFrom t) w.processes → Each (IsPendingFrom t) new.processes
      ran_pending t all = replaced_each (IsPendingFrom t) all (λ from. run_pending f g e there events marks t from)

      pub ran_fewer : all_to_run new + 1 ≡ all_to_run w
      ran_fewer = let sum = replaced_total (λ (x : ProcessFace P S). length (to_run x)) in let less = run_fewer f g e there events marks in omega (arith, sum, less)

  -- the process committed
  module _ (time bound end : ℕ) (at : bound ≡ suc time) (out new_out : List (Event P)) (done : HasCommitted words time f g out new_out) where
    pub committed_moves : (b : Behaviour P S) → Commits words b w new
    committed_moves b = replaced_moves history_of b (λ past. past ++ done.gone) [] [] [] [] (λ past. append_assoc past done.gone g.events ∙ ap (λ l. past ++ l) (sym done.whole)) (λ past is. commits words b past f g time out new_out is done) refl

    committed_last : bound_of g.last ≡ bound
    committed_last = let is = ap bound_of done.last in omega (arith, is, at)

    committed_until : Each (λ (e : Event P). e.time ≤ end) (ran_of f) → Each (λ (e : Event P). e.time ≤ end) (ran_of g)
    committed_until all = Each-back (λ (e : Event P). e.time ≤ end) done.gone (ran_of g) (subst (Each (λ (e : Event P). e.time ≤ end)) (commit_ran words time f g out new_out done) all)

    pub committed_ready : Each (IsReady bound bound end) w.processes → Each (IsReady bound bound end) new.processes
    committed_ready all = replaced_each (IsReady bound bound end) all (λ r. record {
      committed = let is = committed_last in omega (arith, is);
      pending = subst (AreFrom bound) (commit_to_run words time f g out new_out done) r.pending;
      until = committed_until r.until;
    })

    pub committed_early : Each (λ (x : ProcessFace P S). AreFrom bound x.early) w.processes → Each (λ (x : ProcessFace P S). AreFrom bound x.early) new.processes
    committed_early all = replaced_each (λ (x : ProcessFace P S). AreFrom bound x.early) all (λ from. subst (AreFrom bound) (sym done.early) from)

    pub committed_before : Each (IsReady bound bound end) w.processes → Each (IsDue bound end) (take place w.processes) → Each (IsDue bound end) (take (place + 1) new.processes)
    committed_before ready all = replaced_before (IsDue bound end) all (record {
      committed = committed_last;
      until = committed_until (Each-at (IsReady bound bound end) w.processes place f ready one.get).until;
    })

-- the process that is read at a place is the one that is known to be there
pub get_same : {X Y : Type 0} (f : X → Y) (xs : List X) (i : ℕ) (x : X) (y : Y) → slice_get (map f xs) i ≡ Some y → x ≡ get_or xs i x → (y ≡ f x) × (slice_get (map f xs) i ≡ Some (f x))
get_same f xs i x y there is =
    let within = slice_get_within (map f xs) i y there in
    let count = length-map xs f in
    let get = get_mapped f xs i x (omega (arith, within, count)) is in
    let both : Some y ≡ Some (f x) = sym there ∙ get in
    let one : y ≡ f x = cc in
    (one, get)
