use Rattle.std.proofs.Common.{arith, subst}
use Rattle.std.proofs.lemmas.List.Elements.{length_all_zip}
use Rattle.dym_view.specs.Histories.{Beginning}
use Rattle.dym_wave.specs.Observations.{LooksOn}
use Rattle.dym_wave.proofs.Onward.{looked_still, looked_at}
use Rattle.dym_wave.proofs.observer.observe_once.Goals as goal

pub loop-place-init : goal.loop-place-init
loop-place-init c = looked_still c.args.viewers.now.items

pub loop-place-preserved : goal.loop-place-preserved
loop-place-preserved c =
    let start = c.args.viewers.now.items in
    let now = c.loop-place.viewers.items in
    let same = length_all_zip LooksOn start now c.loop-place.invariant in
    let on : LooksOn c.index_mut.result.now c.look.new.self = record { name = c.look.ensures.name; known = c.look.ensures.known } in
    looked_at start now c.loop-place.place c.index_mut.result.now c.look.new.self c.loop-place.invariant
    (omega (arith, c.loop-place-test.true, c.len-place-end.ensures, same))
    (subst (λ (v : Beginning). LooksOn v c.look.new.self) c.index_mut.ensures.value on)
