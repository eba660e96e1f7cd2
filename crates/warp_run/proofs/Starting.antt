-- The workers of a model that has run nothing are a world at time 0.
use Rattle.std.proofs.Common.{◌≡◌, ℕ, zero, suc, ◌+◌, ◌<◌, ◌≤◌, None, List, [], ◌∷◌, ◌++◌, length, map, take, refl, ap, sym, subst, ◌∙◌, arith}
use Rattle.warp_base.specs.declared.event.Event.{Event}
use Rattle.warp_base.specs.declared.event.Message.{Message}
use Rattle.warp_base.specs.Events.{Each, AreFrom, copies}
use Rattle.warp_base.specs.Messages.{event_of, positives, negatives}
use Rattle.warp_base.specs.Histories.{Behaviour}
use Rattle.warp_process.specs.Processes.{ProcessFace, bound_of}
use Rattle.warp_worker.specs.Workers.{WorkerFace, Cell, IsReady, IsArrival, IsOpened, total, stands, waits, sends, to_run}
use Rattle.warp_run.specs.Worlds.{AreWorkers, AreContiguous, IsOnItsWay, IsWorld, process_count, sent_off, taken_off}
use Rattle.warp_run.proofs.Totals.{total-append}

module _ {P S : Type 0} where
  pub contiguous_push : (k : ℕ) (ws : List (WorkerFace P S)) (v : WorkerFace P S) → AreContiguous k ws → v.first ≡ k + total process_count ws → AreContiguous k (ws ++ v ∷ [])
  contiguous_push k [] v con is = (is ∙ (let e : k + 0 ≡ k = omega arith in e), tt)
  contiguous_push k (w ∷ ws) v con is = (con.0, contiguous_push (k + length w.processes) ws v con.1 (omega (arith, is)))

  pub count_push : (ws : List (WorkerFace P S)) (v : WorkerFace P S) → total process_count (ws ++ v ∷ []) ≡ total process_count ws + length v.processes
  count_push [] v = omega arith
  count_push (w ∷ ws) v = let rest = count_push ws v in omega (arith, rest)

  abbrev fresh : List (ProcessFace P S) → List (Cell P S)
  fresh fs = map (λ (f : ProcessFace P S). ([], f)) fs

  abbrev pub start_cells : List (WorkerFace P S) → List (Cell P S)
  start_cells [] = []
  start_cells (w ∷ ws) = fresh w.processes ++ start_cells ws

  module _ (words : P → List ℕ) (b : Behaviour P S) (n end : ℕ) where
    start_workers : (ws : List (WorkerFace P S)) → Each (IsOpened words b n) ws → AreWorkers words b (start_cells ws) ws
    start_workers [] h = refl
    start_workers (w ∷ ws) h = (fresh w.processes, start_cells ws, refl, h.0.worker, start_workers ws h.1)

    any : (xs : List (Event P)) → AreFrom 0 xs
    any [] = tt
    any (x ∷ xs) = (omega arith, any xs)

    none_run : (k : ℕ) → Each (λ (e : Event P). e.time ≤ end) (take k [])
    none_run zero = tt
    none_run (suc k) = tt

    start_ready : (fs : List (ProcessFace P S)) → Each (λ (f : ProcessFace P S). f.last ≡ None) fs → Each (λ (f : ProcessFace P S). f.events ≡ []) fs → Each (IsReady 0 0 end) fs
    start_ready [] last events = tt
    start_ready (f ∷ fs) last events = (
      record {
        committed = let is = ap bound_of last.0 in omega (arith, is);
        pending = any (to_run f);
        until = subst (λ l. Each (λ (e : Event P). e.time ≤ end) (take (length f.marks) l)) (sym events.0) (none_run (length f.marks));
      },
      start_ready fs last.1 events.1,
    )

    all_ready : (ws : List (WorkerFace P S)) → Each (IsOpened words b n) ws → Each (λ (w : WorkerFace P S). Each (IsReady 0 0 end) w.processes) ws
    all_ready [] h = tt
    all_ready (w ∷ ws) h = (start_ready w.processes h.0.last h.0.events, all_ready ws h.1)

    all_inboxes : (ws : List (WorkerFace P S)) → Each (IsOpened words b n) ws → Each (λ (w : WorkerFace P S). Each (IsArrival 0 w) w.inbox) ws
    all_inboxes [] h = tt
    all_inboxes (w ∷ ws) h = (subst (Each (IsArrival 0 w)) (sym h.0.inbox) tt, all_inboxes ws h.1)

    on_its_way : (ms : List (Message P)) → Each (λ (m : Message P). (event_of m).receiver < n) ms → Each (IsOnItsWay 0 n) ms
    on_its_way [] h = tt
    on_its_way (m ∷ ms) h = (record { time = omega arith; within = h.0 }, on_its_way ms h.1)

    all_outboxes : (ws : List (WorkerFace P S)) → Each (IsOpened words b n) ws → Each (λ (w : WorkerFace P S). Each (IsOnItsWay 0 n) w.outbox) ws
    all_outboxes [] h = tt
    all_outboxes (w ∷ ws) h = (on_its_way w.outbox h.0.outbox, all_outboxes ws h.1)

    module _ (e : Event P) where
      no_stands : (fs : List (ProcessFace P S)) → Each (λ (f : ProcessFace P S). f.events ≡ []) fs → total (stands words e) (fresh fs) ≡ 0
      no_stands [] h = refl
      no_stands (f ∷ fs) h = let one = ap (copies words e) h.0 in let rest = no_stands fs h.1 in omega (arith, one, rest)

      no_waits : (fs : List (ProcessFace P S)) → Each (λ (f : ProcessFace P S). f.early ≡ []) fs → total (waits words e) (fresh fs) ≡ 0
      no_waits [] h = refl
      no_waits (f ∷ fs) h = let one = ap (copies words e) h.0 in let rest = no_waits fs h.1 in omega (arith, one, rest)

      start_balance : (ws : List (WorkerFace P S)) → Each (IsOpened words b n) ws → total (stands words e) (start_cells ws) + total (sent_off words e) ws ≡ total (sends words b e) (start_cells ws) + total (waits words e) (start_cells ws) + total (taken_off words e) ws
      start_balance [] h = refl
      start_balance (w ∷ ws) h =
          let front = fresh w.processes in
          let back = start_cells ws in
          let rest = start_balance ws h.1 in
          let stand = total-append (stands words e) front back in
          let wait = total-append (waits words e) front back in
          let send = total-append (sends words b e) front back in
          let no_stand = no_stands w.processes h.0.events in
          let no_wait = no_waits w.processes h.0.early in
          let in_positive = ap (positives words e) h.0.inbox in
          let in_negative = ap (negatives words e) h.0.inbox in
          let sent = h.0.sent e in
          let none = h.0.none_back e in
          omega (arith, rest, stand, wait, send, no_stand, no_wait, in_positive, in_negative, sent, none)

    pub start_world : (ws : List (WorkerFace P S)) → Each (IsOpened words b n) ws → AreContiguous 0 ws → total process_count ws ≡ n → IsWorld words b n 0 end (start_cells ws) ws []
    start_world ws h con count = record {
      workers = start_workers ws h;
      contiguous = con;
      count = count;
      ready = all_ready ws h;
      inboxes = all_inboxes ws h;
      outboxes = all_outboxes ws h;
      others = tt;
      balance = λ e. let all = start_balance e ws h in omega (arith, all);
    }
