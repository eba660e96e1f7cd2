-- A round, from a world to the next: what all lanes may be asked, and what it comes to where none of them has an error.
use Rattle.std.proofs.Common.{◌≡◌, ℕ, suc, ◌<◌, ◌≤◌, Some, slice_get, List, [], map, refl, sym, subst, arith}
use Rattle.std.specs.List.{AllZip}
use Rattle.warp_base.specs.Events.{Each, AreFrom}
use Rattle.warp_base.specs.Histories.{Behaviour, LooksAhead, StartsWithin}
use Rattle.warp_base.specs.Laws.{BoundIsSafe, StatesAreReal}
use Rattle.warp_base.proofs.Orders.{TellsApart}
use Rattle.warp_worker.specs.Workers.{WorkerFace, Cell, settled_of, IsWorker, MayAdvance, HasAdvanced, HasTooMany}
use Rattle.warp_run.specs.Ends.{FaultsAt}
use Rattle.warp_run.specs.Worlds.{IsWorld, IsNotBefore}
use Rattle.warp_run.proofs.Totals.{Each-places}
use Rattle.warp_run.proofs.Ending.{early_behind, failure_real}
use Rattle.warp_run.proofs.RoundWorlds.{Advanced, advanced, world_at}
use Rattle.warp_run.proofs.Lanes.{Each-map, all_may, later_next}

module _ {P S L : Type 0} (face : L → WorkerFace P S) (words : P → List ℕ) (tells : TellsApart words) (b : Behaviour P S) (n bound end : ℕ) (cells : List (Cell P S)) (ahead : LooksAhead b) (starts : StartsWithin n b) (within : bound ≤ end) (before : List L) (world : IsWorld words b n bound end cells (map face before) []) (empty : Each (λ (w : WorkerFace P S). w.outbox ≡ []) (map face before)) where
  pub lanes_may : BoundIsSafe words S → Each (λ (lane : L). MayAdvance bound end (face lane) × ((cs : List (Cell P S)) × IsWorker words b cs (face lane))) before
  lanes_may safe =
      let early = Each-places (λ (c : Cell P S). AreFrom bound c.1.early) cells (λ i c there. early_behind words tells b n bound end cells (map face before) ahead starts world safe i c there) in
      Each-map face (λ (w : WorkerFace P S). MayAdvance bound end w × ((cs : List (Cell P S)) × IsWorker words b cs w)) before (all_may words b bound end cells (map face before) within world.workers world.ready world.inboxes empty early)

  module _ (after : List L) (all : AllZip (λ w v. (cs : List (Cell P S)) → IsWorker words b cs w → HasAdvanced words b n bound end cs w v) (map face before) (map face after)) where
    pub round : Advanced words b n bound end 0 cells (map face before) (map face after)
    round = advanced words b n bound end 0 cells (map face before) (map face after) world.workers world.contiguous all

    -- at a later bound, before which nothing is left
    pub next_world : (t : ℕ) → bound < t → Each (λ (v : WorkerFace P S). IsNotBefore t v.next) (map face after) → IsWorld words b n t end round.new_cells (map face after) []
    next_world t later from = world_at words b n bound end t cells (map face before) (map face after) later world empty round from

    -- a failure that a lane tells is one of the run in order
    pub told_failure : StatesAreReal words S → (k p : ℕ) (v : L) → slice_get (map face after) k ≡ Some (face v) → (face v).failed ≡ Some p → FaultsAt words b n end p
    told_failure real k p v there is =
        failure_real words tells b n (suc bound) end round.new_cells (map face after) ahead starts (next_world (suc bound) (omega arith) (later_next words b bound end (map face after) round.nexts)) real bound p refl within (round.failed k p (face v) there is)

-- orders that are alike ask the same of each lane
module _ {P S L O M : Type 0} (face : L → WorkerFace P S) (words : P → List ℕ) (behaviour : M → Behaviour P S) (processes : M → ℕ) (model_of : O → M) (bound_of end_of : O → ℕ) (model : M) (bound end : ℕ) where
  abbrev pub Alike : O → Type 0
  Alike o = (model_of o ≡ model) × (bound_of o ≡ bound) × (end_of o ≡ end)

  pub may_tells : (o : O) (lane : L) → Alike o → MayAdvance bound end (face lane) × ((cs : List (Cell P S)) × IsWorker words (behaviour model) cs (face lane)) → MayAdvance (bound_of o) (end_of o) (face lane) × ((cs : List (Cell P S)) × IsWorker words (behaviour (model_of o)) cs (face lane))
  may_tells o lane alike may =
      (subst (λ t. MayAdvance t (end_of o) (face lane)) (sym alike.1) (subst (λ t. MayAdvance bound t (face lane)) (sym alike.2) may.0), subst (λ m. (cs : List (Cell P S)) × IsWorker words (behaviour m) cs (face lane)) (sym alike.0) may.1)

  pub advance_tells : (fine : L → Type 0) (o : O) (w v : L) → Alike o → (fine v → (cs : List (Cell P S)) → IsWorker words (behaviour (model_of o)) cs (face w) → HasAdvanced words (behaviour (model_of o)) (processes (model_of o)) (bound_of o) (end_of o) cs (face w) (face v)) → fine v → (cs : List (Cell P S)) → IsWorker words (behaviour model) cs (face w) → HasAdvanced words (behaviour model) (processes model) bound end cs (face w) (face v)
  advance_tells fine o w v alike h =
      subst (λ t. fine v → (cs : List (Cell P S)) → IsWorker words (behaviour model) cs (face w) → HasAdvanced words (behaviour model) (processes model) bound t cs (face w) (face v)) alike.2
      (subst (λ t. fine v → (cs : List (Cell P S)) → IsWorker words (behaviour model) cs (face w) → HasAdvanced words (behaviour model) (processes model) t (end_of o) cs (face w) (face v)) alike.1
      (subst (λ m. fine v → (cs : List (Cell P S)) → IsWorker words (behaviour m) cs (face w) → HasAdvanced words (behaviour m) (processes m) (bound_of o) (end_of o) cs (face w) (face v)) alike.0 h))

  pub error_tells : (told : L → Type 0) (o : O) (w v : L) → Alike o → (told v → (cs : List (Cell P S)) → IsWorker words (behaviour (model_of o)) cs (face w) → HasTooMany (behaviour (model_of o)) (face w).first (map (settled_of (bound_of o)) cs)) → told v → (cs : List (Cell P S)) → IsWorker words (behaviour model) cs (face w) → HasTooMany (behaviour model) (face w).first (map (settled_of bound) cs)
  error_tells told o w v alike h =
      subst (λ t. told v → (cs : List (Cell P S)) → IsWorker words (behaviour model) cs (face w) → HasTooMany (behaviour model) (face w).first (map (settled_of t) cs)) alike.1
      (subst (λ m. told v → (cs : List (Cell P S)) → IsWorker words (behaviour m) cs (face w) → HasTooMany (behaviour m) (face w).first (map (settled_of (bound_of o)) cs)) alike.0 h)
