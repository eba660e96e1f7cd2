use Rattle.dym_heap.proofs.PlaceSteps.{is_place}
use Rattle.dym_heap.proofs.PlaceFacts as facts
use Rattle.dym_heap.proofs.sized_area.SizedArea.release.Goals as goal

pub release-requires : goal.release-requires
release-requires g c = facts.set_p c.self.view_is c.self.invariant c.args.i c.requires

pub returns-clause-freed : goal.returns-clause-freed
returns-clause-freed g c = (facts.released_p c.self.view_is c.self.invariant _ c.args.i c.release.ensures.after c.release.ensures.valid (facts.set_p c.self.view_is c.self.invariant c.args.i c.requires)).is

pub returns-clause-valid : goal.returns-clause-valid
returns-clause-valid g c = is_place (facts.released_p c.self.view_is c.self.invariant _ c.args.i c.release.ensures.after c.release.ensures.valid (facts.set_p c.self.view_is c.self.invariant c.args.i c.requires)).measured
