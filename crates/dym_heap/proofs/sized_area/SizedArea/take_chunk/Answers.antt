use Rattle.std.proofs.Common.{sym, subst}
use Rattle.dym_heap.specs.SizedAreas.{IsMeasured}
use Rattle.dym_heap.specs.Lengths.{numbers_of}
use Rattle.dym_heap.proofs.PlaceSteps.{is_place}
use Rattle.dym_heap.proofs.PlaceFacts as facts
use Rattle.dym_heap.proofs.sized_area.SizedArea.take_chunk.Goals as goal

pub returns-in_default-clause-free : goal.returns-in_default-clause-free
returns-in_default-clause-free g c = facts.full_p c.self.view_is c.self.invariant c.in_default.ensures.first

pub returns-in_default-clause-valid : goal.returns-in_default-clause-valid
returns-in_default-clause-valid g c =
    is_place (subst (λ a. IsMeasured a (numbers_of c.self.inside.lengths)) (sym c.in_default.ensures.after) c.self.invariant)

pub note-requires : goal.note-requires
note-requires g c = facts.few_p c.self.view_is c.self.invariant c.in-Some.ensures.first.below

pub invariant_of-self-2 : goal.invariant_of-self-2
invariant_of-self-2 g c =
    (facts.taken_p c.self.view_is c.self.invariant c.in-Some.i c.args.len c.in-Some.ensures.after c.take_first.ensures.valid c.note.ensures
    (facts.reaches c.self.inside.lengths (facts.few_p c.self.view_is c.self.invariant c.in-Some.ensures.first.below))
    c.in-Some.ensures.first.below c.requires).measured

pub returns-clause-taken : goal.returns-clause-taken
returns-clause-taken g c =
    (facts.taken_p c.self.view_is c.self.invariant c.in-Some.i c.args.len c.in-Some.ensures.after c.take_first.ensures.valid c.note.ensures
    (facts.reaches c.self.inside.lengths (facts.few_p c.self.view_is c.self.invariant c.in-Some.ensures.first.below))
    c.in-Some.ensures.first.below c.requires).is

pub returns-clause-free : goal.returns-clause-free
returns-clause-free g c = facts.first_p c.self.view_is c.self.invariant c.in-Some.i c.in-Some.ensures.first

pub returns-clause-valid : goal.returns-clause-valid
returns-clause-valid g c =
    is_place (facts.taken_p c.self.view_is c.self.invariant c.in-Some.i c.args.len c.in-Some.ensures.after c.take_first.ensures.valid c.note.ensures
    (facts.reaches c.self.inside.lengths (facts.few_p c.self.view_is c.self.invariant c.in-Some.ensures.first.below))
    c.in-Some.ensures.first.below c.requires).measured
