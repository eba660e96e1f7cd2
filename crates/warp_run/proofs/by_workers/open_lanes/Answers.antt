use Rattle.std.proofs.Common.{[], ◌∷◌, map, ap, sym, subst, ◌∙◌, arith}
use Rattle.std.proofs.lemmas.List.{length-map}
use Rattle.warp_base.specs.Events.{Each}
use Rattle.warp_base.proofs.Lists.{Each-append}
use Rattle.warp_process.specs.Processes.{face}
use Rattle.warp_worker.specs.Workers.{IsOpened, total, worker_face}
use Rattle.warp_run.specs.Worlds.{AreContiguous, process_count}
use Rattle.warp_run.proofs.Starting.{contiguous_push, count_push, start_cells, start_world}
use Rattle.warp_run.proofs.Lanes.{map-push}
use Rattle.warp_run.proofs.by_workers.open_lanes.Goals as goal

pub loop-first-init : goal.loop-first-init
loop-first-init g c =
    let to = worker_face g.K.StateSaver.state g.K.StateSaver.copies in
    let none = c.new-lanes.ensures.items in
    record {
      opened = subst (λ l. Each (IsOpened g.M.Payload.Payload.words (g.M.Simulation.behaviour c.args.model.now) (g.M.Simulation.processes c.args.model.now)) (map to l)) (sym none) tt;
      contiguous = subst (λ l. AreContiguous 0 (map to l)) (sym none) tt;
      sum = ap (λ l. total process_count (map to l)) none;
      within = omega arith;
    }

pub loop-first-preserved : goal.loop-first-preserved
loop-first-preserved g c =
    let to = worker_face g.K.StateSaver.state g.K.StateSaver.copies in
    let words = g.M.Payload.Payload.words in
    let model = c.args.model.now in
    let Q = IsOpened words (g.M.Simulation.behaviour model) (g.M.Simulation.processes model) in
    let now = c.loop-first.invariant in
    let items = c.loop-first.lanes.items in
    let worker = c.in_ok-open.field-0 in
    let push = c.in_ok-push.ensures.items in
    let few = c.min-few.ensures in
    let first = c.in_ok-open.ensures.first in
    let count = c.in_ok-open.ensures.count in
    let sum = now.sum in
    let within = now.within in
    let more = count_push (map to items) (to worker) in
    let long = length-map worker.processes.items (face g.K.StateSaver.state g.K.StateSaver.copies) in
    let all = ap (λ l. total process_count (map to l)) push ∙ ap (total process_count) (map-push to items worker) in
    record {
      opened = subst (λ l. Each Q (map to l)) (sym push) (subst (Each Q) (sym (map-push to items worker)) (Each-append Q (map to items) (to worker ∷ []) now.opened (c.in_ok-open.ensures.opened, tt)));
      contiguous = subst (λ l. AreContiguous 0 (map to l)) (sym push) (subst (AreContiguous 0) (sym (map-push to items worker)) (contiguous_push 0 (map to items) (to worker) now.contiguous (omega (arith, first, sum))));
      sum = omega (arith, all, more, long, count, sum);
      within = omega (arith, few, within, c.loop-first-test.true);
    }

pub returns : goal.returns
returns g c end =
    let to = worker_face g.K.StateSaver.state g.K.StateSaver.copies in
    let words = g.M.Payload.Payload.words in
    let model = c.args.model.now in
    let now = c.loop-first.invariant in
    let sum = now.sum in
    let within = now.within in
    (start_cells (map to c.loop-first.lanes.items), start_world words (g.M.Simulation.behaviour model) (g.M.Simulation.processes model) end (map to c.loop-first.lanes.items) now.opened now.contiguous (omega (arith, sum, within, c.processes-count.ensures, c.loop-first-test.false)))
