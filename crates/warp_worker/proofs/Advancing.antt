-- The steps of a round put together.
use Rattle.std.proofs.Common.{◌≡◌, ℕ, suc, ◌+◌, ◌<◌, ◌≤◌, Option, Some, None, List, [], ◌∷◌, length, refl, ap, sym, subst, ◌∙◌, arith}
use Rattle.warp_base.specs.declared.event.Event.{Event}
use Rattle.warp_base.specs.declared.event.Message.{Message}
use Rattle.warp_base.specs.Events.{Each}
use Rattle.warp_base.specs.Messages.{positives, negatives, AreMessagesFrom}
use Rattle.warp_base.specs.Histories.{Behaviour}
use Rattle.warp_base.proofs.Lists.{Each-weaker}
use Rattle.warp_process.specs.Processes.{ProcessFace, bound_of}
use Rattle.warp_worker.specs.Workers.{WorkerFace, Cell, IsWorker, IsReady, IsArrival, IsDeparture, IsIdleUntil, MayAdvance, HasAdvanced, TellsNext, TellsFailed, AreNumbered}
use Rattle.warp_worker.specs.Moves.{HasMoved, Moves, Commits, has, owes, IsDue, IsMidway, IsPendingFrom, TellsLeast}
use Rattle.warp_worker.proofs.Midway.{arrivals_stay, add_up, moves_then}
use Rattle.warp_worker.proofs.Telling.{tells_next}

ready_of : {P S : Type 0} (bound end : ℕ) (fs : List (ProcessFace P S)) → Each (IsDue bound end) fs → Each (IsPendingFrom (suc bound)) fs → Each (IsReady bound (suc bound) end) fs
ready_of bound end [] due pending = tt
ready_of bound end (f ∷ fs) due pending =
    (record { committed = let is = due.0.committed in omega (arith, is); pending = pending.0; until = due.0.until }, ready_of bound end fs due.1 pending.1)

-- after the commit: all messages are in the inbox still
pub midway_start : {P S : Type 0} (bound end n : ℕ) (old w : WorkerFace P S) → MayAdvance bound end old → Each (IsDue bound end) w.processes → w.first ≡ old.first → length w.processes ≡ length old.processes → w.inbox ≡ old.inbox → w.outbox ≡ old.outbox → IsMidway bound end n w []
midway_start bound end n old w may due first count inbox outbox = record {
  due = due;
  inbox = subst (Each (IsArrival bound w)) (sym inbox) (arrivals_stay bound old w old.inbox first count may.inbox);
  mail = tt;
  outbox = subst (Each (IsDeparture bound n)) (sym (outbox ∙ may.outbox)) tt;
}

-- five steps in a row
pub moves_five : {P S : Type 0} (words : P → List ℕ) (b : Behaviour P S) (u v w x y z : WorkerFace P S) (us vs ws xs ys zs : List (Message P)) → Moves words b u us v vs → Moves words b v vs w ws → Moves words b w ws x xs → Moves words b x xs y ys → Moves words b y ys z zs → Moves words b u us z zs
moves_five words b u v w x y z us vs ws xs ys zs one two three four five =
    moves_then words b u y z us ys zs (moves_then words b u x y us xs ys (moves_then words b u w x us ws xs (moves_then words b u v w us vs ws one two) three) four) five

idle_again : {P S : Type 0} (w v : WorkerFace P S) → v.processes ≡ w.processes → v.outbox ≡ w.outbox → (t : ℕ) → IsIdleUntil w t → IsIdleUntil v t
idle_again w v processes outbox t h = record {
  processes = subst (Each (IsPendingFrom t)) (sym processes) h.processes;
  outbox = subst (AreMessagesFrom t) (sym outbox) h.outbox;
}

tells_again : {P S : Type 0} (w v : WorkerFace P S) → v.processes ≡ w.processes → v.outbox ≡ w.outbox → (bound : ℕ) (next : Option ℕ) → TellsNext bound w next → TellsNext bound v next
tells_again w v processes outbox bound None h = λ t. idle_again w v processes outbox t (h t)
tells_again w v processes outbox bound (Some next) h =
    (h.0, idle_again w v processes outbox next h.1, λ more. h.2 (idle_again v w (sym processes) (sym outbox) (suc next) more))

module _ {P S : Type 0} (words : P → List ℕ) (b : Behaviour P S) (n bound end : ℕ) (old v w new : WorkerFace P S) (mail : List (Message P)) where
  pub advanced : MayAdvance bound end old → Commits words b old v → Moves words b v [] w mail → mail ≡ [] → IsMidway bound end n w mail → Each (IsPendingFrom (suc bound)) w.processes → w.inbox ≡ [] → w.first ≡ old.first → length w.processes ≡ length old.processes
      → new.processes ≡ w.processes → new.first ≡ w.first → new.inbox ≡ w.inbox → new.outbox ≡ w.outbox → TellsLeast (IsIdleUntil w) new.next → ((cells : List (Cell P S)) → IsWorker words b cells w → TellsFailed words b cells new.failed)
      → (cells : List (Cell P S)) → IsWorker words b cells old → HasAdvanced words b n bound end cells old new
  advanced may commits moves empty midway pending inbox first count new_processes new_first new_inbox new_outbox next failed cells h =
      let done = commits cells h in
      let moved = moves done.new_cells done.worker in
      let told = tells_next bound n w new.next pending midway.outbox next in
      record {
        new_cells = moved.new_cells;
        worker = record {
          faces = moved.worker.faces ∙ sym new_processes;
          are = moved.worker.are;
          numbered = subst (λ k. AreNumbered k new.processes) (sym new_first) (subst (AreNumbered w.first) (sym new_processes) moved.worker.numbered);
        };
        first = new_first ∙ first;
        count = ap length new_processes ∙ count;
        ready = subst (Each (IsReady bound (suc bound) end)) (sym new_processes) (ready_of bound end w.processes midway.due pending);
        committed = subst (Each (λ (f : ProcessFace P S). bound_of f.last ≡ bound)) (sym new_processes) (Each-weaker (IsDue bound end) (λ (f : ProcessFace P S). bound_of f.last ≡ bound) (λ f due. due.committed) w.processes midway.due);
        inbox = new_inbox ∙ inbox;
        outbox = subst (Each (IsDeparture bound n)) (sym new_outbox) midway.outbox;
        balance = λ e.
            let all = add_up words b (has words e cells old []) (owes words b e cells old []) (has words e done.new_cells v []) (owes words b e done.new_cells v []) (has words e moved.new_cells w mail) (owes words b e moved.new_cells w mail) (done.balance e) (moved.balance e) in
            let old_pos = ap (positives words e) may.outbox in
            let old_neg = ap (negatives words e) may.outbox in
            let in_pos = ap (positives words e) inbox in
            let in_neg = ap (negatives words e) inbox in
            let mail_pos = ap (positives words e) empty in
            let mail_neg = ap (negatives words e) empty in
            let out_pos = ap (positives words e) new_outbox in
            let out_neg = ap (negatives words e) new_outbox in
            omega (arith, all, old_pos, old_neg, in_pos, in_neg, mail_pos, mail_neg, out_pos, out_neg);
        next = tells_again w new new_processes new_outbox bound new.next told;
        failed = failed moved.new_cells moved.worker;
      }
