-- The event that the heap gives is before all that it keeps, and it is the one that stood at its front.
use Rattle.std.proofs.Common.{◌∙◌, ◌<◌, length, ◌∷◌, sym, subst, ap, refl, arith}
use Rattle.std.proofs.lemmas.List.Sorted.{length_permutation}
use Rattle.std.specs.BinaryHeap.{heap_items}
use Rattle.warp_base.specs.Events.{Each}
use Rattle.warp_run.proofs.Sorted.{popped, none_until, front_is_one}
use Rattle.warp_run.proofs.queue.EventQueue.pop_until.Goals as goal

pub returns-then-branch-end-clause-none : goal.returns-then-branch-end-clause-none
returns-then-branch-end-clause-none g c =
    let late : c.args.end < c.in_ok-peek.field-0.now.0.time = c.if-branch-end.true in
    (refl, subst (Each (λ e. c.args.end < e.time)) c.self.view_is (none_until g.P.Payload.words g.met.P.Payload.tells_apart (λ x. x.0) c.args.end c.in_ok-peek.field-0.now (heap_items c.self.inside.heap) (c.in_ok-peek.ensures.greatest c.self.invariant) late))

pub returns-clause-first : goal.returns-clause-first
returns-clause-first g c =
    let given = c.in_ok-event.ensures in
    let items = heap_items c.self.inside.heap in
    let given_item = c.in_ok-event.field-0 in
    let some : 0 < length items = let same = length_permutation items (given_item ∷ heap_items c.pop.new.self) given.permutation in omega (arith, same) in
    let is = front_is_one c.in_ok-peek.field-0.now given_item items some c.in_ok-peek.ensures.lookup given.top in
    let soon = c.if-branch-end.false in
    let same = ap (λ x. x.0.time) is in
    (sym c.self.view_is ∙ popped g.P.Payload.words g.met.P.Payload.tells_apart (λ x. x.0) given_item items (heap_items c.pop.new.self) given.permutation (given.below_top c.self.invariant), omega (arith, soon, same))
