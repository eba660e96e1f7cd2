-- Messages go from outboxes to inboxes, one after the other: whatever it was the world of, it stays.
use Rattle.std.proofs.Common.{◌≡◌, ℕ, zero, suc, ◌+◌, ◌<◌, ◌≤◌, Some, slice_get, set, List, [], ◌∷◌, ◌++◌, length, ap, sym, subst, ◌∙◌, arith}
use Rattle.warp_base.specs.declared.event.Event.{Event}
use Rattle.warp_base.specs.declared.event.Message.{Message}
use Rattle.warp_base.specs.declared.event.Message.TheVariants as Variants
use Rattle.warp_base.specs.Events.{Each}
use Rattle.warp_base.specs.Messages.{event_of, positives, negatives}
use Rattle.warp_base.specs.Histories.{Behaviour}
use Rattle.warp_base.proofs.Lists.{Each-append, Each-weaker}
use Rattle.warp_worker.specs.Workers.{WorkerFace, Cell, IsReady, IsArrival, AreNumbered}
use Rattle.warp_run.specs.Worlds.{AreWorkers, AreContiguous, IsOnItsWay, IsWorld, process_count, sent_off, taken_off}
use Rattle.warp_run.proofs.Totals.{total-set, Each-set, Each-at}

module _ {P : Type 0} (words : P → List ℕ) (e : Event P) where
  pub positives-push : (ms : List (Message P)) (m : Message P) → positives words e (ms ++ m ∷ []) ≡ positives words e ms + positives words e (m ∷ [])
  positives-push [] m = omega arith
  positives-push (Variants.Event x ∷ ms) m = let rest = positives-push ms m in omega (arith, rest)
  positives-push (Variants.Anti x ∷ ms) m = positives-push ms m

  pub negatives-push : (ms : List (Message P)) (m : Message P) → negatives words e (ms ++ m ∷ []) ≡ negatives words e ms + negatives words e (m ∷ [])
  negatives-push [] m = omega arith
  negatives-push (Variants.Event x ∷ ms) m = negatives-push ms m
  negatives-push (Variants.Anti x ∷ ms) m = let rest = negatives-push ms m in omega (arith, rest)

  pub positives-cons : (m : Message P) (ms : List (Message P)) → positives words e (m ∷ ms) ≡ positives words e (m ∷ []) + positives words e ms
  positives-cons (Variants.Event x) ms = omega arith
  positives-cons (Variants.Anti x) ms = omega arith

  pub negatives-cons : (m : Message P) (ms : List (Message P)) → negatives words e (m ∷ ms) ≡ negatives words e (m ∷ []) + negatives words e ms
  negatives-cons (Variants.Event x) ms = omega arith
  negatives-cons (Variants.Anti x) ms = omega arith

module _ {P S : Type 0} (words : P → List ℕ) (b : Behaviour P S) where
  -- other boxes at a place
  workers_set : (cells : List (Cell P S)) (ws : List (WorkerFace P S)) (i : ℕ) (w v : WorkerFace P S) → slice_get ws i ≡ Some w → v.processes ≡ w.processes → v.first ≡ w.first → AreWorkers words b cells ws → AreWorkers words b cells (set ws i v)
  workers_set cells [] i w v there same first h = cc
  workers_set cells (x ∷ ws) zero w v there same first h =
      let is : x ≡ w = cc in
      let processes : v.processes ≡ x.processes = same ∙ ap (λ (u : WorkerFace P S). u.processes) (sym is) in
      let firsts : v.first ≡ x.first = first ∙ ap (λ (u : WorkerFace P S). u.first) (sym is) in (
        h.0,
        h.1,
        h.2,
        record {
          faces = h.3.faces ∙ sym processes;
          are = h.3.are;
          numbered = subst (λ l. AreNumbered v.first l) (sym processes) (subst (λ k. AreNumbered k x.processes) (sym firsts) h.3.numbered);
        },
        h.4,
      )
  workers_set cells (x ∷ ws) (suc i) w v there same first h = (h.0, h.1, h.2, h.3, workers_set h.1 ws i w v there same first h.4)

  contiguous_set : (k : ℕ) (ws : List (WorkerFace P S)) (i : ℕ) (w v : WorkerFace P S) → slice_get ws i ≡ Some w → v.processes ≡ w.processes → v.first ≡ w.first → AreContiguous k ws → AreContiguous k (set ws i v)
  contiguous_set k [] i w v there same first h = tt
  contiguous_set k (x ∷ ws) zero w v there same first h =
      let is : x ≡ w = cc in
      let processes : v.processes ≡ x.processes = same ∙ ap (λ (u : WorkerFace P S). u.processes) (sym is) in
      let firsts : v.first ≡ x.first = first ∙ ap (λ (u : WorkerFace P S). u.first) (sym is) in
      (firsts ∙ h.0, subst (λ l. AreContiguous (k + length l) ws) (sym processes) h.1)
  contiguous_set k (x ∷ ws) (suc i) w v there same first h = (h.0, contiguous_set (k + length x.processes) ws i w v there same first h.1)

  module _ (n bound end : ℕ) (cells : List (Cell P S)) (ws : List (WorkerFace P S)) (i : ℕ) (w : WorkerFace P S) (there : slice_get ws i ≡ Some w) where
    arrivals : (v : WorkerFace P S) → v.processes ≡ w.processes → v.first ≡ w.first → (ms : List (Message P)) → Each (IsArrival bound w) ms → Each (IsArrival bound v) ms
    arrivals v same first ms h = Each-weaker (IsArrival bound w) (IsArrival bound v) (λ m is. record { time = is.time; above = subst (λ k. k ≤ (event_of m).receiver) (sym first) is.above; below = subst (λ l. (event_of m).receiver < v.first + length l) (sym same) (subst (λ k. (event_of m).receiver < k + length w.processes) (sym first) is.below) }) ms h

    -- with what is left of the boxes of one worker, and with other loose messages
    boxes_set : (v : WorkerFace P S) (loose new_loose : List (Message P)) → v.processes ≡ w.processes → v.first ≡ w.first → Each (IsArrival bound v) v.inbox → Each (IsOnItsWay bound n) v.outbox → Each (IsOnItsWay bound n) new_loose → ((e : Event P) → sent_off words e v + positives words e new_loose ≡ sent_off words e w + positives words e loose) → ((e : Event P) → taken_off words e v + negatives words e new_loose ≡ taken_off words e w + negatives words e loose) → IsWorld words b n bound end cells ws loose → IsWorld words b n bound end cells (set ws i v) new_loose
    boxes_set v loose new_loose same first inbox outbox loose_way sent taken h = record {
      workers = workers_set cells ws i w v there same first h.workers;
      contiguous = contiguous_set 0 ws i w v there same first h.contiguous;
      count = let all = total-set process_count ws i w v there in let count = h.count in let lengths = ap length same in omega (arith, all, count, lengths);
      ready = Each-set (λ (u : WorkerFace P S). Each (IsReady bound bound end) u.processes) ws i v h.ready (subst (Each (IsReady bound bound end)) (sym same) (Each-at (λ (u : WorkerFace P S). Each (IsReady bound bound end) u.processes) ws i w h.ready there));
      inboxes = Each-set (λ (u : WorkerFace P S). Each (IsArrival bound u) u.inbox) ws i v h.inboxes inbox;
      outboxes = Each-set (λ (u : WorkerFace P S). Each (IsOnItsWay bound n) u.outbox) ws i v h.outboxes outbox;
      others = loose_way;
      balance = λ e.
          let all = h.balance e in
          let sum_sent = total-set (sent_off words e) ws i w v there in
          let sum_taken = total-set (taken_off words e) ws i w v there in
          let one = sent e in
          let two = taken e in
          omega (arith, all, sum_sent, sum_taken, one, two);
    }

    -- an outbox is emptied
    pub taken_out : (v : WorkerFace P S) → v.processes ≡ w.processes → v.first ≡ w.first → v.inbox ≡ w.inbox → v.outbox ≡ [] → IsWorld words b n bound end cells ws [] → IsWorld words b n bound end cells (set ws i v) w.outbox
    taken_out v same first inbox outbox h =
        boxes_set v [] w.outbox same first
        (arrivals v same first v.inbox (subst (Each (IsArrival bound w)) (sym inbox) (Each-at (λ (u : WorkerFace P S). Each (IsArrival bound u) u.inbox) ws i w h.inboxes there)))
        (subst (Each (IsOnItsWay bound n)) (sym outbox) tt)
        (Each-at (λ (u : WorkerFace P S). Each (IsOnItsWay bound n) u.outbox) ws i w h.outboxes there)
        (λ e. let one = ap (positives words e) inbox in let two = ap (positives words e) outbox in omega (arith, one, two))
        (λ e. let one = ap (negatives words e) inbox in let two = ap (negatives words e) outbox in omega (arith, one, two)) h

    -- a message is put into the inbox of the worker that has its process
    pub put_in : (v : WorkerFace P S) (m : Message P) (rest : List (Message P)) → v.processes ≡ w.processes → v.first ≡ w.first → v.inbox ≡ w.inbox ++ m ∷ [] → v.outbox ≡ w.outbox → w.first ≤ (event_of m).receiver → (event_of m).receiver < w.first + length w.processes → IsWorld words b n bound end cells ws (m ∷ rest) → IsWorld words b n bound end cells (set ws i v) rest
    put_in v m rest same first inbox outbox above below h =
        let here : IsArrival bound w m = record { time = h.others.0.time; above = above; below = below } in
        boxes_set v (m ∷ rest) rest same first
        (arrivals v same first v.inbox (subst (Each (IsArrival bound w)) (sym inbox) (Each-append (IsArrival bound w) w.inbox (m ∷ []) (Each-at (λ (u : WorkerFace P S). Each (IsArrival bound u) u.inbox) ws i w h.inboxes there) (here, tt))))
        (subst (Each (IsOnItsWay bound n)) (sym outbox) (Each-at (λ (u : WorkerFace P S). Each (IsOnItsWay bound n) u.outbox) ws i w h.outboxes there))
        h.others.1
        (λ e. let one = ap (positives words e) inbox ∙ positives-push words e w.inbox m in let two = ap (positives words e) outbox in let three = positives-cons words e m rest in omega (arith, one, two, three))
        (λ e. let one = ap (negatives words e) inbox ∙ negatives-push words e w.inbox m in let two = ap (negatives words e) outbox in let three = negatives-cons words e m rest in omega (arith, one, two, three)) h
