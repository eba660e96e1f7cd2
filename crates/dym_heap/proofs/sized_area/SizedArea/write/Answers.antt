use Rattle.std.proofs.Common.{arith}
use Rattle.dym_heap.proofs.PlaceSteps.{is_place}
use Rattle.dym_heap.proofs.PlaceFacts as facts
use Rattle.dym_heap.proofs.sized_area.SizedArea.write.Goals as goal

pub write-requires-clause-used : goal.write-requires-clause-used
write-requires-clause-used g c = (facts.in_use c.self.view_is c.self.invariant c.args.i _ c.requires.within).is_set

pub write-requires-clause-within : goal.write-requires-clause-within
write-requires-clause-within g c = let u = facts.in_use c.self.view_is c.self.invariant c.args.i _ c.requires.within in let a = u.fits in let b = u.small in omega arith

pub returns-clause-written : goal.returns-clause-written
returns-clause-written g c =
    let u = facts.in_use c.self.view_is c.self.invariant c.args.i _ c.requires.within in
    facts.match_some _ _ u.at
    (facts.written_p c.self.view_is c.self.invariant c.args.at c.args.bytes.now u c.write.ensures.after c.write.ensures.valid
    (facts.reaches c.self.inside.lengths (facts.few_p c.self.view_is c.self.invariant u.below)) c.requires.some).is

pub returns-clause-valid : goal.returns-clause-valid
returns-clause-valid g c =
    let u = facts.in_use c.self.view_is c.self.invariant c.args.i _ c.requires.within in
    is_place (facts.written_p c.self.view_is c.self.invariant c.args.at c.args.bytes.now u c.write.ensures.after c.write.ensures.valid
    (facts.reaches c.self.inside.lengths (facts.few_p c.self.view_is c.self.invariant u.below)) c.requires.some).measured
