-- A worker that answers that events are too many has a process whose committed past says so, and that is of the run in order.
use Rattle.std.proofs.Common.{◌≡◌, ℕ, zero, suc, ◌+◌, ◌^◌, ◌≤◌, ◌⊎◌, inl, inr, Some, slice_get, List, [], ◌∷◌, length, map, refl, ap, sym, subst, ◌∙◌, arith}
use Rattle.std.specs.List.{AllZip}
use Rattle.warp_base.specs.Histories.{Behaviour, LooksAhead, StartsWithin, all_sent}
use Rattle.warp_base.specs.Laws.{SequentialIsSound, BoundIsSafe}
use Rattle.warp_base.proofs.Orders.{TellsApart}
use Rattle.warp_process.specs.declared.run.RunError.{RunError}
use Rattle.warp_process.specs.declared.run.RunError.TheVariants.{Counts}
use Rattle.warp_worker.specs.Workers.{WorkerFace, Cell, settled_of, IsWorker, HasTooMany}
use Rattle.warp_run.specs.declared.finished.Failure.{Failure}
use Rattle.warp_run.specs.declared.finished.Failure.TheVariants.{OutOfMemory, TooManyEvents}
use Rattle.warp_run.specs.Ends.{IsHalfTooLong}
use Rattle.warp_run.specs.Failures.{MatchFailure}
use Rattle.warp_run.specs.Worlds.{AreWorkers, AreContiguous, IsWorld}
use Rattle.warp_run.proofs.Families.{faces-long}
use Rattle.warp_run.proofs.Ending.{mapped_at, many_real}
use Rattle.warp_run.proofs.Finishing.{get_front, get_back}

-- what a run's error comes to
pub failure_of : (fault : ℕ → Type 0) (many : Type 0) (f : Failure) (e : RunError) → (f ≡ OutOfMemory) ⊎ ((f ≡ TooManyEvents) × (e ≡ Counts)) → (e ≡ Counts → many) → MatchFailure fault many f
failure_of fault many f e (inl is) told = subst (MatchFailure fault many) (sym is) tt
failure_of fault many f e (inr is) told = subst (MatchFailure fault many) (sym is.0) (told is.1)

-- what stood at a place before
pub zip_at : {L : Type 0} (T : L → L → Type 0) (before after : List L) (k : ℕ) (v : L) → AllZip T before after → slice_get after k ≡ Some v → (w : L) × (slice_get before k ≡ Some w) × T w v
zip_at T [] [] k v all there = cc
zip_at T [] (x ∷ after) k v all there = absurd all
zip_at T (w ∷ before) [] k v all there = absurd all
zip_at T (w ∷ before) (x ∷ after) zero v all there = let is : x ≡ v = cc in (w, refl, subst (T w) is all.0)
zip_at T (w ∷ before) (x ∷ after) (suc k) v all there = zip_at T before after k v all.1 there

module _ {P S : Type 0} (words : P → List ℕ) (b : Behaviour P S) where
  -- the cells of a worker, and where they stand among all
  pub record WorkerAt (first : ℕ) (cells : List (Cell P S)) (w : WorkerFace P S) : Type 0 where
    pub own : List (Cell P S)
    pub worker : IsWorker words b own w
    pub behind : ℕ
    pub number : w.first ≡ first + behind
    pub cell : (j : ℕ) (c : Cell P S) → slice_get own j ≡ Some c → slice_get cells (behind + j) ≡ Some c

  pub worker_at : (first : ℕ) (cells : List (Cell P S)) (ws : List (WorkerFace P S)) (k : ℕ) (w : WorkerFace P S) → AreWorkers words b cells ws → AreContiguous first ws → slice_get ws k ≡ Some w → WorkerAt first cells w
  worker_at first cells [] k w workers con there = cc
  worker_at first cells (x ∷ ws) zero w workers con there =
      let is : x ≡ w = cc in
      let front = workers.0 in
      let back = workers.1 in
      let start = con.0 in
      let same = ap (λ (u : WorkerFace P S). u.first) is in
      record {
        own = front;
        worker = subst (IsWorker words b front) is workers.3;
        behind = 0;
        number = omega (arith, start, same);
        cell = λ j c at. ap (slice_get cells) (let e : 0 + j ≡ j = omega arith in e) ∙ ap (λ l. slice_get l j) workers.2 ∙ get_front front back j c at;
      }
  worker_at first cells (x ∷ ws) (suc k) w workers con there =
      let front = workers.0 in
      let back = workers.1 in
      let rest = worker_at (first + length x.processes) back ws k w workers.4 con.1 there in
      let number = rest.number in
      let long : length front ≡ length x.processes = sym (faces-long front) ∙ ap length workers.3.faces in
      record {
        own = rest.own;
        worker = rest.worker;
        behind = length x.processes + rest.behind;
        number = omega (arith, number);
        cell = λ j c at. ap (slice_get cells) (let e : (length x.processes + rest.behind) + j ≡ length front + (rest.behind + j) = omega (arith, long) in e)
            ∙ ap (λ l. slice_get l (length front + (rest.behind + j))) workers.2 ∙ get_back front back (rest.behind + j) ∙ rest.cell j c at;
      }

module _ {P S L : Type 0} (face : L → WorkerFace P S) (words : P → List ℕ) (tells : TellsApart words) (b : Behaviour P S) (n bound end : ℕ) (cells : List (Cell P S)) (ahead : LooksAhead b) (starts : StartsWithin n b) (within : bound ≤ end) (before : List L) (world : IsWorld words b n bound end cells (map face before) []) where
  pub lane_too_long : SequentialIsSound words S → BoundIsSafe words S → (k : ℕ) (w : L) → slice_get (map face before) k ≡ Some (face w) → ((cs : List (Cell P S)) → IsWorker words b cs (face w) → HasTooMany b (face w).first (map (settled_of bound) cs)) → IsHalfTooLong words b n end
  lane_too_long sound safe k w there told =
      let at = worker_at words b 0 cells (map face before) k (face w) world.workers world.contiguous there in
      let h = told at.own at.worker in
      let from = mapped_at (settled_of bound) at.own h.place h.past h.there in
      let p = (face w).first + h.place in
      let number = at.number in
      let here : slice_get cells p ≡ Some from.0 = ap (slice_get cells) (let e : (face w).first + h.place ≡ at.behind + h.place = omega (arith, number) in e) ∙ at.cell h.place from.0 from.1 in
      many_real words tells b n bound end cells (map face before) ahead starts world sound safe within p from.0 here h.state h.event
      (subst (λ l. (2 ^ 63 ≤ length l) ⊎ (2 ^ 63 ≤ length (all_sent b p l) + length (b.drafts p h.state h.event))) (sym from.2) h.many)
