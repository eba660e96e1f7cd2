use Rattle.std.proofs.Common.{◌≡◌, ℕ, suc, List, [], map, slice_get, Option, Some, None, option_map, ap, sym, subst, ◌∙◌, arith}
use Rattle.std.specs.Prelude.{IfOk, IfNone}
use Rattle.std.specs.List.{All, AllZip, zip}
use Rattle.std.proofs.lemmas.Option.{slice_get-map}
use Rattle.warp_base.specs.Events.{Each}
use Rattle.warp_worker.specs.declared.order.Order.{Order}
use Rattle.warp_worker.specs.declared.worker.Worker.{Worker}
use Rattle.warp_worker.specs.Workers.{WorkerFace, Cell, settled_of, IsWorker, MayAdvance, HasAdvanced, HasTooMany, worker_face}
use Rattle.warp_process.specs.declared.run.RunError.TheVariants.{Counts}
use Rattle.warp_run.specs.Ends.{FaultsAt, IsHalfTooLong}
use Rattle.warp_run.specs.Worlds.{IsWorld, IsNotBefore}
use Rattle.warp_run.proofs.Lanes.{Each-map, Each-mapped, all_with, zipped_with, without_errors, later_next}
use Rattle.warp_run.proofs.Advancing.{Alike, may_tells, advance_tells, error_tells, lanes_may, told_failure, next_world, round}
use Rattle.warp_run.proofs.TooLong.{failure_of, zip_at, lane_too_long}
use Rattle.warp_run.proofs.rounds.Rounds.round.Goals as goal
use Rattle.warp_run.proofs.rounds.Rounds.round.Goals.{in_default-least_next-2, in_default-least_next}

pub exchange_all-requires : goal.exchange_all-requires
exchange_all-requires g c =
    let model = c.args.self.now.model.now in
    record {
      world = (
        g.M.Simulation.processes model,
        record {
          behaviour = g.M.Simulation.behaviour model;
          bound = c.args.bound;
          end = c.args.self.now.end;
          cells = c.requires.world.0;
          world = c.requires.world.1;
        },
      );
    }

pub round-requires-clause-ready : goal.round-requires-clause-ready
round-requires-clause-ready g c =
    let to = worker_face g.K.StateSaver.state g.K.StateSaver.copies in
    let words = g.M.Payload.Payload.words in
    let tells = g.met.M.Payload.Payload.tells_apart in
    let model = c.args.self.now.model.now in
    let behaviour = g.M.Simulation.behaviour in
    let processes = g.M.Simulation.processes in
    let b = behaviour model in
    let n = processes model in
    let end = c.args.self.now.end in
    let bound = c.args.bound in
    let cells = c.requires.world.0 in
    let ahead = g.met.M.Simulation.looks_ahead model in
    let starts = g.met.M.Simulation.starts_within model in
    let before = c.exchange_all.new.workers.items in
    let world = c.in_ok-exchange_all.ensures.world b n bound end cells c.requires.world.1 in
    let empty = Each-mapped to (λ (w : WorkerFace g.row.M-Payload.Denot g.row.M-State.Denot). w.outbox ≡ []) before c.in_ok-exchange_all.ensures.outboxes in
    let model_of = λ (o : Order g.row.M.Denot). o.model.now in
    let bound_of = λ (o : Order g.row.M.Denot). o.bound in
    let end_of = λ (o : Order g.row.M.Denot). o.end in
    let may = λ (o : Order g.row.M.Denot) (lane : Worker g.row.M-Payload.Denot g.row.K.Denot). MayAdvance o.bound o.end (to lane) × ((cs : List (Cell g.row.M-Payload.Denot g.row.M-State.Denot)) × IsWorker words (behaviour o.model.now) cs (to lane)) in
    let Q = λ (lane : Worker g.row.M-Payload.Denot g.row.K.Denot). MayAdvance bound end (to lane) × ((cs : List (Cell g.row.M-Payload.Denot g.row.M-State.Denot)) × IsWorker words b cs (to lane)) in
    let all = all_with may (Alike to words behaviour processes model_of bound_of end_of model bound end) Q (may_tells to words behaviour processes model_of bound_of end_of model bound end) c.in_ok-orders.orders.items before c.in_ok-orders.ensures.alike (lanes_may to words tells b n bound end cells ahead starts c.requires.within before world empty c.bound_is_safe.ensures) in
    subst (λ l. All (λ (x : Order g.row.M.Denot × Worker g.row.M-Payload.Denot g.row.K.Denot). may x.0 x.1) (zip l before)) (sym c.deref.ensures.value) all

pub returns-in-Some-clause-failure : goal.returns-in-Some-clause-failure
returns-in-Some-clause-failure g c =
    let to = worker_face g.K.StateSaver.state g.K.StateSaver.copies in
    let words = g.M.Payload.Payload.words in
    let tells = g.met.M.Payload.Payload.tells_apart in
    let model = c.args.self.now.model.now in
    let behaviour = g.M.Simulation.behaviour in
    let processes = g.M.Simulation.processes in
    let b = behaviour model in
    let n = processes model in
    let end = c.args.self.now.end in
    let bound = c.args.bound in
    let cells = c.requires.world.0 in
    let ahead = g.met.M.Simulation.looks_ahead model in
    let starts = g.met.M.Simulation.starts_within model in
    let before = c.exchange_all.new.workers.items in
    let world = c.in_ok-exchange_all.ensures.world b n bound end cells c.requires.world.1 in
    let model_of = λ (o : Order g.row.M.Denot). o.model.now in
    let bound_of = λ (o : Order g.row.M.Denot). o.bound in
    let end_of = λ (o : Order g.row.M.Denot). o.end in
    let after = c.round.new.lanes.items in
    let fine = λ (v : Worker g.row.M-Payload.Denot g.row.K.Denot). v.error ≡ None in
    let R = λ (o : Order g.row.M.Denot) (w v : Worker g.row.M-Payload.Denot g.row.K.Denot). (fine v → (cs : List (Cell g.row.M-Payload.Denot g.row.M-State.Denot)) → IsWorker words (behaviour o.model.now) cs (to w) → HasAdvanced words (behaviour o.model.now) (processes o.model.now) o.bound o.end cs (to w) (to v))
    × (v.error ≡ Some Counts → (cs : List (Cell g.row.M-Payload.Denot g.row.M-State.Denot)) → IsWorker words (behaviour o.model.now) cs (to w) → HasTooMany (behaviour o.model.now) w.first (map (settled_of o.bound) cs)) in
    let told = λ (v : Worker g.row.M-Payload.Denot g.row.K.Denot). v.error ≡ Some Counts in
    let T = λ (w v : Worker g.row.M-Payload.Denot g.row.K.Denot). told v → (cs : List (Cell g.row.M-Payload.Denot g.row.M-State.Denot)) → IsWorker words b cs (to w) → HasTooMany b w.first (map (settled_of bound) cs) in
    let zipped = zipped_with R (Alike to words behaviour processes model_of bound_of end_of model bound end) T (λ o w v alike r. error_tells to words behaviour processes model_of bound_of end_of model bound end told o w v alike r.1) c.in_ok-orders.orders.items before after c.in_ok-orders.ensures.alike c.in_ok-orders.ensures.count (subst (λ l. AllZip (λ (x : Order g.row.M.Denot × Worker g.row.M-Payload.Denot g.row.K.Denot) lane. R x.0 x.1 lane) (zip l before) after) c.deref.ensures.value c.round.ensures.advanced) in
    let found = c.in-Some.ensures.some in
    let k = found.0 in
    let v = found.1 in
    let there : slice_get after k ≡ Some v = sym (ap (λ l. slice_get l k) c.deref-2.ensures.value) ∙ found.2 in
    failure_of (FaultsAt words b n end) (IsHalfTooLong words b n end) c.from.result c.in-Some.error c.from.ensures (λ counts.
    let at = zip_at T before after k v zipped there in
    lane_too_long to words tells b n bound end cells ahead starts c.requires.within before world c.sequential_run_is_sound.ensures c.bound_is_safe.ensures k at.0 (slice_get-map to before k ∙ ap (option_map to) at.1) (at.2 (found.3 ∙ ap Some counts)))

pub returns-in-Some-first_failed-clause-failure : goal.returns-in-Some-first_failed-clause-failure
returns-in-Some-first_failed-clause-failure g c =
    let to = worker_face g.K.StateSaver.state g.K.StateSaver.copies in
    let words = g.M.Payload.Payload.words in
    let tells = g.met.M.Payload.Payload.tells_apart in
    let model = c.args.self.now.model.now in
    let behaviour = g.M.Simulation.behaviour in
    let processes = g.M.Simulation.processes in
    let b = behaviour model in
    let n = processes model in
    let end = c.args.self.now.end in
    let bound = c.args.bound in
    let cells = c.requires.world.0 in
    let ahead = g.met.M.Simulation.looks_ahead model in
    let starts = g.met.M.Simulation.starts_within model in
    let before = c.exchange_all.new.workers.items in
    let world = c.in_ok-exchange_all.ensures.world b n bound end cells c.requires.world.1 in
    let empty = Each-mapped to (λ (w : WorkerFace g.row.M-Payload.Denot g.row.M-State.Denot). w.outbox ≡ []) before c.in_ok-exchange_all.ensures.outboxes in
    let model_of = λ (o : Order g.row.M.Denot). o.model.now in
    let bound_of = λ (o : Order g.row.M.Denot). o.bound in
    let end_of = λ (o : Order g.row.M.Denot). o.end in
    let after = c.round.new.lanes.items in
    let fine = λ (v : Worker g.row.M-Payload.Denot g.row.K.Denot). v.error ≡ None in
    let Done = λ (w v : WorkerFace g.row.M-Payload.Denot g.row.M-State.Denot). (cs : List (Cell g.row.M-Payload.Denot g.row.M-State.Denot)) → IsWorker words b cs w → HasAdvanced words b n bound end cs w v in
    let R = λ (o : Order g.row.M.Denot) (w v : Worker g.row.M-Payload.Denot g.row.K.Denot). (fine v → (cs : List (Cell g.row.M-Payload.Denot g.row.M-State.Denot)) → IsWorker words (behaviour o.model.now) cs (to w) → HasAdvanced words (behaviour o.model.now) (processes o.model.now) o.bound o.end cs (to w) (to v))
    × (v.error ≡ Some Counts → (cs : List (Cell g.row.M-Payload.Denot g.row.M-State.Denot)) → IsWorker words (behaviour o.model.now) cs (to w) → HasTooMany (behaviour o.model.now) w.first (map (settled_of o.bound) cs)) in
    let T = λ (w v : Worker g.row.M-Payload.Denot g.row.K.Denot). fine v → Done (to w) (to v) in
    let zipped = zipped_with R (Alike to words behaviour processes model_of bound_of end_of model bound end) T (λ o w v alike r. advance_tells to words behaviour processes model_of bound_of end_of model bound end fine o w v alike r.0) c.in_ok-orders.orders.items before after c.in_ok-orders.ensures.alike c.in_ok-orders.ensures.count (subst (λ l. AllZip (λ (x : Order g.row.M.Denot × Worker g.row.M-Payload.Denot g.row.K.Denot) lane. R x.0 x.1 lane) (zip l before) after) c.deref.ensures.value c.round.ensures.advanced) in
    let all = without_errors to fine Done before after zipped (subst (Each fine) c.deref-2.ensures.value c.in_default.ensures.none) in
    let found = c.in-Some-first_failed.ensures in
    let k = found.0 in
    let v = found.1 in
    let there : slice_get (map to after) k ≡ Some (to v) = slice_get-map to after k ∙ ap (option_map to) (sym (ap (λ l. slice_get l k) c.deref-3.ensures.value) ∙ found.2) in
    told_failure to words tells b n bound end cells ahead starts c.requires.within before world empty after all c.settled_states_are_real.ensures k c.in-Some-first_failed.process v there found.3

pub returns-in-Some-least_next-clause-next : goal.returns-in-Some-least_next-clause-next
returns-in-Some-least_next-clause-next g c =
    let to = worker_face g.K.StateSaver.state g.K.StateSaver.copies in
    let words = g.M.Payload.Payload.words in
    let tells = g.met.M.Payload.Payload.tells_apart in
    let model = c.args.self.now.model.now in
    let behaviour = g.M.Simulation.behaviour in
    let processes = g.M.Simulation.processes in
    let b = behaviour model in
    let n = processes model in
    let end = c.args.self.now.end in
    let bound = c.args.bound in
    let cells = c.requires.world.0 in
    let ahead = g.met.M.Simulation.looks_ahead model in
    let starts = g.met.M.Simulation.starts_within model in
    let before = c.exchange_all.new.workers.items in
    let world = c.in_ok-exchange_all.ensures.world b n bound end cells c.requires.world.1 in
    let empty = Each-mapped to (λ (w : WorkerFace g.row.M-Payload.Denot g.row.M-State.Denot). w.outbox ≡ []) before c.in_ok-exchange_all.ensures.outboxes in
    let model_of = λ (o : Order g.row.M.Denot). o.model.now in
    let bound_of = λ (o : Order g.row.M.Denot). o.bound in
    let end_of = λ (o : Order g.row.M.Denot). o.end in
    let after = c.round.new.lanes.items in
    let fine = λ (v : Worker g.row.M-Payload.Denot g.row.K.Denot). v.error ≡ None in
    let Done = λ (w v : WorkerFace g.row.M-Payload.Denot g.row.M-State.Denot). (cs : List (Cell g.row.M-Payload.Denot g.row.M-State.Denot)) → IsWorker words b cs w → HasAdvanced words b n bound end cs w v in
    let R = λ (o : Order g.row.M.Denot) (w v : Worker g.row.M-Payload.Denot g.row.K.Denot). (fine v → (cs : List (Cell g.row.M-Payload.Denot g.row.M-State.Denot)) → IsWorker words (behaviour o.model.now) cs (to w) → HasAdvanced words (behaviour o.model.now) (processes o.model.now) o.bound o.end cs (to w) (to v))
    × (v.error ≡ Some Counts → (cs : List (Cell g.row.M-Payload.Denot g.row.M-State.Denot)) → IsWorker words (behaviour o.model.now) cs (to w) → HasTooMany (behaviour o.model.now) w.first (map (settled_of o.bound) cs)) in
    let T = λ (w v : Worker g.row.M-Payload.Denot g.row.K.Denot). fine v → Done (to w) (to v) in
    let zipped = zipped_with R (Alike to words behaviour processes model_of bound_of end_of model bound end) T (λ o w v alike r. advance_tells to words behaviour processes model_of bound_of end_of model bound end fine o w v alike r.0) c.in_ok-orders.orders.items before after c.in_ok-orders.ensures.alike c.in_ok-orders.ensures.count (subst (λ l. AllZip (λ (x : Order g.row.M.Denot × Worker g.row.M-Payload.Denot g.row.K.Denot) lane. R x.0 x.1 lane) (zip l before) after) c.deref.ensures.value c.round.ensures.advanced) in
    let all = without_errors to fine Done before after zipped (subst (Each fine) c.deref-2.ensures.value c.in_default.ensures.none) in
    let next = c.in-Some-least_next.next in
    let a = round to words tells b n bound end cells ahead starts c.requires.within before world empty after all in
    let laters = Each-map to (λ (w : WorkerFace g.row.M-Payload.Denot g.row.M-State.Denot). IsNotBefore (suc bound) w.next) after (later_next words b bound end (map to after) a.nexts) in
    let later = c.in-Some-least_next.ensures.one (suc bound) (subst (Each (λ (w : Worker g.row.M-Payload.Denot g.row.K.Denot). IsNotBefore (suc bound) w.next)) (sym c.deref-4.ensures.value) laters) in
    let from = subst (Each (λ (w : Worker g.row.M-Payload.Denot g.row.K.Denot). IsNotBefore next w.next)) c.deref-4.ensures.value (c.in-Some-least_next.ensures.least next (omega arith)) in
    let new = next_world to words tells b n bound end cells ahead starts c.requires.within before world empty after all next (omega (arith, later)) (Each-mapped to (λ (w : WorkerFace g.row.M-Payload.Denot g.row.M-State.Denot). IsNotBefore next w.next) after from) in
    (omega (arith, later), c.if-next-self.true, (a.new_cells, new))

pub returns-clause-over : goal.returns-clause-over
returns-clause-over g c =
    let to = worker_face g.K.StateSaver.state g.K.StateSaver.copies in
    let words = g.M.Payload.Payload.words in
    let tells = g.met.M.Payload.Payload.tells_apart in
    let model = c.args.self.now.model.now in
    let behaviour = g.M.Simulation.behaviour in
    let processes = g.M.Simulation.processes in
    let b = behaviour model in
    let n = processes model in
    let end = c.args.self.now.end in
    let bound = c.args.bound in
    let cells = c.requires.world.0 in
    let ahead = g.met.M.Simulation.looks_ahead model in
    let starts = g.met.M.Simulation.starts_within model in
    let before = c.exchange_all.new.workers.items in
    let world = c.in_ok-exchange_all.ensures.world b n bound end cells c.requires.world.1 in
    let empty = Each-mapped to (λ (w : WorkerFace g.row.M-Payload.Denot g.row.M-State.Denot). w.outbox ≡ []) before c.in_ok-exchange_all.ensures.outboxes in
    let model_of = λ (o : Order g.row.M.Denot). o.model.now in
    let bound_of = λ (o : Order g.row.M.Denot). o.bound in
    let end_of = λ (o : Order g.row.M.Denot). o.end in
    let after = c.round.new.lanes.items in
    let fine = λ (v : Worker g.row.M-Payload.Denot g.row.K.Denot). v.error ≡ None in
    let Done = λ (w v : WorkerFace g.row.M-Payload.Denot g.row.M-State.Denot). (cs : List (Cell g.row.M-Payload.Denot g.row.M-State.Denot)) → IsWorker words b cs w → HasAdvanced words b n bound end cs w v in
    let R = λ (o : Order g.row.M.Denot) (w v : Worker g.row.M-Payload.Denot g.row.K.Denot). (fine v → (cs : List (Cell g.row.M-Payload.Denot g.row.M-State.Denot)) → IsWorker words (behaviour o.model.now) cs (to w) → HasAdvanced words (behaviour o.model.now) (processes o.model.now) o.bound o.end cs (to w) (to v))
    × (v.error ≡ Some Counts → (cs : List (Cell g.row.M-Payload.Denot g.row.M-State.Denot)) → IsWorker words (behaviour o.model.now) cs (to w) → HasTooMany (behaviour o.model.now) w.first (map (settled_of o.bound) cs)) in
    let T = λ (w v : Worker g.row.M-Payload.Denot g.row.K.Denot). fine v → Done (to w) (to v) in
    let zipped = zipped_with R (Alike to words behaviour processes model_of bound_of end_of model bound end) T (λ o w v alike r. advance_tells to words behaviour processes model_of bound_of end_of model bound end fine o w v alike r.0) c.in_ok-orders.orders.items before after c.in_ok-orders.ensures.alike c.in_ok-orders.ensures.count (subst (λ l. AllZip (λ (x : Order g.row.M.Denot × Worker g.row.M-Payload.Denot g.row.K.Denot) lane. R x.0 x.1 lane) (zip l before) after) c.deref.ensures.value c.round.ensures.advanced) in
    let all = without_errors to fine Done before after zipped (subst (Each fine) c.deref-2.ensures.value c.in_default.ensures.none) in
    let a = round to words tells b n bound end cells ahead starts c.requires.within before world empty after all in
    let Over = λ (next : Option ℕ). IfNone next ((x : List (Cell g.row.M-Payload.Denot g.row.M-State.Denot)) × IsWorld words b n (suc end) end x (map to after) []) in
    let finished : IsNotBefore (suc end) c.least_next.result → IsWorld words b n (suc end) end a.new_cells (map to after) [] = λ none.
    let from = subst (Each (λ (w : Worker g.row.M-Payload.Denot g.row.K.Denot). IsNotBefore (suc end) w.next)) c.deref-4.ensures.value (c.least_next.ensures.least (suc end) none) in
    next_world to words tells b n bound end cells ahead starts c.requires.within before world empty after all (suc end) (let within = c.requires.within in omega (arith, within)) (Each-mapped to (λ (w : WorkerFace g.row.M-Payload.Denot g.row.M-State.Denot). IsNotBefore (suc end) w.next) after from) in
    elim c.match-least_next.branch as (λ _. IfOk c.match-least_next.result Over) [
      | in_default-least_next-2 w ↦ subst (λ r. IfOk r Over) (sym w.result-is) (a.new_cells, finished (subst (IsNotBefore (suc end)) (sym w.in-Some-least_next.is) (let late = w.if-next-self.false in omega (arith, late))))
      | in_default-least_next w ↦ subst (λ r. IfOk r Over) (sym w.result-is) (a.new_cells, finished (subst (IsNotBefore (suc end)) (sym w.in_default-least_next.is) tt))
    ]
