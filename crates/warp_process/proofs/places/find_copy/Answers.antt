use Rattle.std.proofs.Common.{◌∙◌}
use Rattle.std.proofs.lemmas.Bool.{iff_false}
use Rattle.warp_process.proofs.InOrder.{none_yet}
use Rattle.warp_process.proofs.places.find_copy.Goals as goal

pub loop-place-preserved : goal.loop-place-preserved
loop-place-preserved g c =
    let other = c.index-events-place.result in
    none_yet g.P.Payload.words g.met.P.Payload.tells_apart c.args.event.now c.args.events.now c.loop-place.place other c.loop-place-test.true
    (λ same. iff_false c.is_same.ensures c.if-is_same.false (c.index-events-place.is ∙ same)) c.loop-place.invariant
