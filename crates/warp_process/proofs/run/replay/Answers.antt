use Rattle.std.proofs.Common.{◌++◌, ◌∷◌, [], take, ap, sym, ◌∙◌}
use Rattle.std.proofs.lemmas.List.{take_more}
use Rattle.warp_base.specs.Histories.{state_from}
use Rattle.warp_base.proofs.Folds.{state_from-push}
use Rattle.warp_process.proofs.run.replay.Goals as goal

pub loop-event-preserved : goal.loop-event-preserved
loop-event-preserved g c =
    let b = g.M.Simulation.behaviour c.args.model.now in
    let p = c.args.number in
    let s = g.K.StateSaver.state c.args.saver.now in
    let event = c.event-item.result in
    let before = take c.loop-event.event-index c.args.events.now in
    let more = take_more c.args.events.now c.loop-event.event-index event c.loop-event-test.true ∙ ap (λ x. before ++ x ∷ []) (sym c.event-item.is) in
    record {
      state = c.in_ok-run.ensures.state ∙ ap (λ t. b.after p t event) c.loop-event.invariant.state ∙ sym (state_from-push b p s before event) ∙ ap (state_from b p s) (sym more);
      copies = c.run.ensures.copies ∙ c.loop-event.invariant.copies;
    }
