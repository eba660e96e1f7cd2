use Rattle.std.proofs.Common.{length}
use Rattle.dym_heap.proofs.PlaceSteps.{is_place}
use Rattle.dym_heap.proofs.PlaceFacts as facts
use Rattle.dym_heap.proofs.PlaceUndo as undo
use Rattle.dym_heap.proofs.sized_area.SizedArea.put_back.Goals as goal

pub put_back-requires-clause-within : goal.put_back-requires-clause-within
put_back-requires-clause-within g c = facts.below_p c.self.view_is c.self.invariant c.requires.within

pub put_back-requires-clause-fits : goal.put_back-requires-clause-fits
put_back-requires-clause-fits g c = undo.fits_p c.self.view_is c.self.invariant (length c.args.bytes.now) c.requires.sized

pub note-requires : goal.note-requires
note-requires g c = facts.few_p c.self.view_is c.self.invariant (facts.below_p c.self.view_is c.self.invariant c.requires.within)

pub returns-clause-back : goal.returns-clause-back
returns-clause-back g c =
    (undo.back_p c.self.view_is c.self.invariant c.args.i c.args.bytes.now c.put_back.ensures.after c.put_back.ensures.valid c.note.ensures
    (facts.reaches c.self.inside.lengths (facts.few_p c.self.view_is c.self.invariant (facts.below_p c.self.view_is c.self.invariant c.requires.within)))
    c.requires.within c.requires.sized).is

pub returns-clause-valid : goal.returns-clause-valid
returns-clause-valid g c =
    is_place (undo.back_p c.self.view_is c.self.invariant c.args.i c.args.bytes.now c.put_back.ensures.after c.put_back.ensures.valid c.note.ensures
    (facts.reaches c.self.inside.lengths (facts.few_p c.self.view_is c.self.invariant (facts.below_p c.self.view_is c.self.invariant c.requires.within)))
    c.requires.within c.requires.sized).measured
