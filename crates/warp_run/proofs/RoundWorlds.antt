-- A round of all workers keeps a world, at the next tick; where nothing is left before a later bound it is a world there.
use Rattle.std.proofs.Common.{◌≡◌, ℕ, zero, suc, ◌+◌, ◌<◌, ◌≤◌, Option, Some, None, slice_get, List, [], ◌∷◌, ◌++◌, length, refl, ap, sym, subst, ◌∙◌, arith}
use Rattle.std.specs.List.{AllZip}
use Rattle.warp_base.specs.declared.event.Event.{Event}
use Rattle.warp_base.specs.declared.event.Message.{Message}
use Rattle.warp_base.specs.Events.{Each, AreFrom}
use Rattle.warp_base.specs.Messages.{event_of, positives, negatives, AreMessagesFrom}
use Rattle.warp_base.specs.Histories.{Behaviour}
use Rattle.warp_base.proofs.Lists.{Each-weaker}
use Rattle.warp_process.specs.Processes.{ProcessFace}
use Rattle.warp_worker.specs.Workers.{WorkerFace, Cell, IsWorker, IsReady, IsArrival, IsDeparture, IsIdleUntil, TellsNext, to_run, TellsFailed, HasAdvanced, total, stands, waits, sends}
use Rattle.warp_run.specs.Worlds.{AreWorkers, AreContiguous, IsOnItsWay, IsWorld, IsNotBefore, process_count, sent_off, taken_off}
use Rattle.warp_run.proofs.Totals.{total-append}

module _ {P S : Type 0} (words : P → List ℕ) (b : Behaviour P S) (n bound end : ℕ) where
  -- what all workers did in a round
  pub record Advanced (first : ℕ) (cells : List (Cell P S)) (ws vs : List (WorkerFace P S)) : Type 0 where
    pub new_cells : List (Cell P S)
    pub workers : AreWorkers words b new_cells vs
    pub contiguous : AreContiguous first vs
    pub count : total process_count vs ≡ total process_count ws
    pub ready : Each (λ (v : WorkerFace P S). Each (IsReady bound (suc bound) end) v.processes) vs
    pub inboxes : Each (λ (v : WorkerFace P S). v.inbox ≡ []) vs
    pub outboxes : Each (λ (v : WorkerFace P S). Each (IsDeparture bound n) v.outbox) vs
    pub balance : (e : Event P)
        → total (stands words e) new_cells + total (waits words e) cells + total (sends words b e) cells + total (λ (w : WorkerFace P S). negatives words e w.inbox) ws + total (λ (v : WorkerFace P S). positives words e v.outbox) vs
        ≡ total (stands words e) cells + total (waits words e) new_cells + total (sends words b e) new_cells + total (λ (w : WorkerFace P S). positives words e w.inbox) ws + total (λ (v : WorkerFace P S). negatives words e v.outbox) vs
    pub nexts : Each (λ (v : WorkerFace P S). TellsNext bound v v.next) vs
    pub failed : (k p : ℕ) (v : WorkerFace P S) → slice_get vs k ≡ Some v → v.failed ≡ Some p → TellsFailed words b new_cells (Some p)

  get_front : {X : Type 0} (xs ys : List X) (i : ℕ) (x : X) → slice_get xs i ≡ Some x → slice_get (xs ++ ys) i ≡ Some x
  get_front [] ys i x there = cc
  get_front (z ∷ xs) ys zero x there = there
  get_front (z ∷ xs) ys (suc i) x there = get_front xs ys i x there

  get_back : {X : Type 0} (xs ys : List X) (i : ℕ) → slice_get (xs ++ ys) (length xs + i) ≡ slice_get ys i
  get_back [] ys i = ap (slice_get ys) (let e : 0 + i ≡ i = omega arith in e)
  get_back (x ∷ xs) ys i = ap (slice_get (x ∷ (xs ++ ys))) (let e : suc (length xs) + i ≡ suc (length xs + i) = omega arith in e) ∙ get_back xs ys i

  front_fails : (front back : List (Cell P S)) (p : ℕ) (told : Option ℕ) → told ≡ Some p → TellsFailed words b front told → TellsFailed words b (front ++ back) (Some p)
  front_fails front back p told is tells =
      let t : TellsFailed words b front (Some p) = subst (TellsFailed words b front) is tells in
      (t.0, t.1, get_front front back t.0 t.1 t.2, t.3, t.4)

  back_fails : (front back : List (Cell P S)) (p : ℕ) → TellsFailed words b back (Some p) → TellsFailed words b (front ++ back) (Some p)
  back_fails front back p t = (length front + t.0, t.1, get_back front back t.0 ∙ t.2, t.3, t.4)

  found : (v : WorkerFace P S) (vs : List (WorkerFace P S)) (front back : List (Cell P S)) (ws : List (WorkerFace P S)) (w : WorkerFace P S) (one : HasAdvanced words b n bound end front w v) {first : ℕ} (rest : Advanced first back ws vs) (k p : ℕ) (u : WorkerFace P S) → slice_get (v ∷ vs) k ≡ Some u → u.failed ≡ Some p → TellsFailed words b (one.new_cells ++ rest.new_cells) (Some p)
  found v vs front back ws w one rest zero p u there is = let same : v ≡ u = cc in front_fails one.new_cells rest.new_cells p v.failed (ap (λ (x : WorkerFace P S). x.failed) same ∙ is) one.failed
  found v vs front back ws w one rest (suc k) p u there is = back_fails one.new_cells rest.new_cells p (rest.failed k p u there is)

  pub advanced : (first : ℕ) (cells : List (Cell P S)) (ws vs : List (WorkerFace P S)) → AreWorkers words b cells ws → AreContiguous first ws → AllZip (λ w v. (cs : List (Cell P S)) → IsWorker words b cs w → HasAdvanced words b n bound end cs w v) ws vs → Advanced first cells ws vs
  advanced first cells [] [] workers con all = record {
    new_cells = [];
    workers = refl;
    contiguous = tt;
    count = refl;
    ready = tt;
    inboxes = tt;
    outboxes = tt;
    balance = λ e. let none = ap (total (stands words e)) workers in let two = ap (total (waits words e)) workers in let three = ap (total (sends words b e)) workers in omega (arith, none, two, three);
    nexts = tt;
    failed = λ k p v there. cc;
  }
  advanced first cells [] (v ∷ vs) workers con all = absurd all
  advanced first cells (w ∷ ws) [] workers con all = absurd all
  advanced first cells (w ∷ ws) (v ∷ vs) workers con all =
      let front = workers.0 in
      let back = workers.1 in
      let one = all.0 front workers.3 in
      let rest = advanced (first + length w.processes) back ws vs workers.4 con.1 all.1 in
      record {
        new_cells = one.new_cells ++ rest.new_cells;
        workers = (one.new_cells, rest.new_cells, refl, one.worker, rest.workers);
        contiguous = (one.first ∙ con.0, subst (λ k. AreContiguous (first + k) vs) (sym one.count) rest.contiguous);
        count = let here = one.count in let there = rest.count in omega (arith, here, there);
        ready = (one.ready, rest.ready);
        inboxes = (one.inbox, rest.inboxes);
        outboxes = (one.outbox, rest.outboxes);
        balance = λ e.
            let here = one.balance e in
            let there = rest.balance e in
            let stand = ap (total (stands words e)) workers.2 ∙ total-append (stands words e) front back in
            let wait = ap (total (waits words e)) workers.2 ∙ total-append (waits words e) front back in
            let send = ap (total (sends words b e)) workers.2 ∙ total-append (sends words b e) front back in
            let stand' = total-append (stands words e) one.new_cells rest.new_cells in
            let wait' = total-append (waits words e) one.new_cells rest.new_cells in
            let send' = total-append (sends words b e) one.new_cells rest.new_cells in
            omega (arith, here, there, stand, wait, send, stand', wait', send');
        nexts = (one.next, rest.nexts);
        failed = λ k p u there is. found v vs front back ws w one rest k p u there is;
      }

  -- the world after a round
  in_total : (e : Event P) (ws : List (WorkerFace P S)) → Each (λ (w : WorkerFace P S). w.outbox ≡ []) ws → (total (sent_off words e) ws ≡ total (λ (w : WorkerFace P S). positives words e w.inbox) ws) × (total (taken_off words e) ws ≡ total (λ (w : WorkerFace P S). negatives words e w.inbox) ws)
  in_total e [] h = (refl, refl)
  in_total e (w ∷ ws) h =
      let rest = in_total e ws h.1 in
      let left = rest.0 in
      let right = rest.1 in
      let positive = ap (positives words e) h.0 in
      let negative = ap (negatives words e) h.0 in
      (omega (arith, left, positive), omega (arith, right, negative))

  out_total : (e : Event P) (ws : List (WorkerFace P S)) → Each (λ (w : WorkerFace P S). w.inbox ≡ []) ws → (total (sent_off words e) ws ≡ total (λ (w : WorkerFace P S). positives words e w.outbox) ws) × (total (taken_off words e) ws ≡ total (λ (w : WorkerFace P S). negatives words e w.outbox) ws)
  out_total e [] h = (refl, refl)
  out_total e (w ∷ ws) h =
      let rest = out_total e ws h.1 in
      let left = rest.0 in
      let right = rest.1 in
      let positive = ap (positives words e) h.0 in
      let negative = ap (negatives words e) h.0 in
      (omega (arith, left, positive), omega (arith, right, negative))

  empty_inboxes : (t : ℕ) (vs : List (WorkerFace P S)) → Each (λ (v : WorkerFace P S). v.inbox ≡ []) vs → Each (λ (v : WorkerFace P S). Each (IsArrival t v) v.inbox) vs
  empty_inboxes t vs h = Each-weaker (λ (v : WorkerFace P S). v.inbox ≡ []) (λ (v : WorkerFace P S). Each (IsArrival t v) v.inbox) (λ v none. subst (Each (IsArrival t v)) (sym none) tt) vs h

  -- nothing is left before a time that isn't later than what is told
  idle_until : (t : ℕ) (v : WorkerFace P S) (next : Option ℕ) → TellsNext bound v next → IsNotBefore t next → IsIdleUntil v t
  idle_until t v None tells from = tells t
  idle_until t v (Some next) tells from = record {
    processes = Each-weaker (λ (f : ProcessFace P S). AreFrom next (to_run f)) (λ (f : ProcessFace P S). AreFrom t (to_run f)) (λ f late. Each-weaker (λ (e : Event P). next ≤ e.time) (λ (e : Event P). t ≤ e.time) (λ e later. omega (arith, later, from)) (to_run f) late) v.processes tells.1.processes;
    outbox = Each-weaker (λ (m : Message P). next ≤ (event_of m).time) (λ (m : Message P). t ≤ (event_of m).time) (λ m later. omega (arith, later, from)) v.outbox tells.1.outbox;
  }

  -- at a bound that isn't later than what any worker tells, all is a world again
  pub world_at : (t : ℕ) (cells : List (Cell P S)) (ws vs : List (WorkerFace P S)) → bound < t → IsWorld words b n bound end cells ws [] → Each (λ (w : WorkerFace P S). w.outbox ≡ []) ws → (a : Advanced 0 cells ws vs) → Each (λ (v : WorkerFace P S). IsNotBefore t v.next) vs → IsWorld words b n t end a.new_cells vs []
  world_at t cells ws vs later world empty a from = record {
    workers = a.workers;
    contiguous = a.contiguous;
    count = a.count ∙ world.count;
    ready = ready_at vs a.ready a.nexts from;
    inboxes = empty_inboxes t vs a.inboxes;
    outboxes = outboxes_at vs a.outboxes a.nexts from;
    others = tt;
    balance = λ e.
        let old = world.balance e in
        let round = a.balance e in
        let ins = in_total e ws empty in
        let outs = out_total e vs a.inboxes in
        let in_positive = ins.0 in
        let in_negative = ins.1 in
        let out_positive = outs.0 in
        let out_negative = outs.1 in
        omega (arith, old, round, in_positive, in_negative, out_positive, out_negative);
  }
    where
      ready_at : (us : List (WorkerFace P S)) → Each (λ (v : WorkerFace P S). Each (IsReady bound (suc bound) end) v.processes) us → Each (λ (v : WorkerFace P S). TellsNext bound v v.next) us → Each (λ (v : WorkerFace P S). IsNotBefore t v.next) us → Each (λ (v : WorkerFace P S). Each (IsReady t t end) v.processes) us
      ready_at [] ready nexts not_before = tt
      ready_at (v ∷ us) ready nexts not_before = (each v.processes ready.0 (idle_until t v v.next nexts.0 not_before.0).processes, ready_at us ready.1 nexts.1 not_before.1)
        where
          each : (fs : List (ProcessFace P S)) → Each (IsReady bound (suc bound) end) fs → Each (λ (f : ProcessFace P S). AreFrom t (to_run f)) fs → Each (IsReady t t end) fs
          each [] r p = tt
          each (f ∷ fs) r p = (record { committed = let few = r.0.committed in omega (arith, few, later); pending = p.0; until = r.0.until }, each fs r.1 p.1)

      outboxes_at : (us : List (WorkerFace P S)) → Each (λ (v : WorkerFace P S). Each (IsDeparture bound n) v.outbox) us → Each (λ (v : WorkerFace P S). TellsNext bound v v.next) us → Each (λ (v : WorkerFace P S). IsNotBefore t v.next) us → Each (λ (v : WorkerFace P S). Each (IsOnItsWay t n) v.outbox) us
      outboxes_at [] out nexts not_before = tt
      outboxes_at (v ∷ us) out nexts not_before = (each v.outbox out.0 (idle_until t v v.next nexts.0 not_before.0).outbox, outboxes_at us out.1 nexts.1 not_before.1)
        where
          each : (ms : List (Message P)) → Each (IsDeparture bound n) ms → AreMessagesFrom t ms → Each (IsOnItsWay t n) ms
          each [] d p = tt
          each (m ∷ ms) d p = (record { time = p.0; within = d.0.within }, each ms d.1 p.1)
