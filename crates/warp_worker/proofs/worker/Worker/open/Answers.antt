use Rattle.std.proofs.Common.{◌≡◌, ◌+◌, [], ◌∷◌, ◌++◌, None, length, map, refl, ap, sym, subst, ◌∙◌, arith, length-append}
use Rattle.std.proofs.lemmas.List.{length-map}
use Rattle.warp_base.specs.declared.event.Message.TheVariants as Variants
use Rattle.warp_base.specs.Histories.{stamped}
use Rattle.warp_process.specs.Processes.{face}
use Rattle.warp_worker.specs.Workers.{IsOpened}
use Rattle.warp_worker.proofs.Openings.{opened_none, opened_more, push_map}
use Rattle.warp_worker.proofs.worker.Worker.open.Goals as goal

pub loop-place-init : goal.loop-place-init
loop-place-init g c =
    let to = face g.K.StateSaver.state g.K.StateSaver.copies in
    let none = c.new-processes.ensures.items in
    record {
      opened = opened_none g.P.Payload.words (g.M.Simulation.behaviour c.args.model.now) (g.M.Simulation.processes c.args.model.now) _ (ap (map to) none) refl c.new-outbox.ensures.items;
      count = ap length none;
    }

pub loop-place-preserved : goal.loop-place-preserved
loop-place-preserved g c =
    let to = face g.K.StateSaver.state g.K.StateSaver.copies in
    let model = c.args.model.now in
    let b = g.M.Simulation.behaviour model in
    let items = c.loop-place.processes.items in
    let process = c.in_ok-process.process in
    let is = c.in_ok-process.ensures in
    let long = length-map items to in
    let count = c.loop-place.invariant.count in
    let number = is.number in
    let push = c.in_ok-push.ensures.items in
    record {
      opened = opened_more g.P.Payload.words b (g.M.Simulation.processes model) (g.met.M.Simulation.sends_within model)
          (record { first = c.args.first; processes = map to items; inbox = []; outbox = c.loop-place.outbox.items; next = None; failed = None })
          (record { first = c.args.first; processes = map to c.push.new.self.items; inbox = []; outbox = c.open_process.new.out.items; next = None; failed = None })
          (to process) c.loop-place.invariant.opened is.process (omega (arith, number, long, count)) is.last is.events is.early refl (ap (map to) push ∙ push_map to items process) refl
          (is.out ∙ ap (λ q. c.loop-place.outbox.items ++ map Variants.Event (stamped q 0 (b.firsts q))) (sym number));
      count = let all = ap length push ∙ length-append items (process ∷ []) in omega (arith, all, count);
    }

pub returns-clause-opened : goal.returns-clause-opened
returns-clause-opened g c =
    let to = face g.K.StateSaver.state g.K.StateSaver.copies in
    let model = c.args.model.now in
    subst (λ l. IsOpened g.P.Payload.words (g.M.Simulation.behaviour model) (g.M.Simulation.processes model) (record { first = c.args.first; processes = map to c.loop-place.processes.items; inbox = l; outbox = c.loop-place.outbox.items; next = None; failed = None })) (sym c.new.ensures.items) c.loop-place.invariant.opened
