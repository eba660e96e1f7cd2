use Rattle.std.proofs.Common.{ap, subst, ◌∙◌, ◌&&◌}
use Rattle.dym_bits.specs.Bits.{bit_in}
use Rattle.dym_heap.specs.SizedAreas.{IsSizedArea}
use Rattle.dym_heap.proofs.LendingCalls as calls
use Rattle.dym_heap.proofs.PlaceSteps.{is_place}
use Rattle.dym_heap.proofs.sized_area.SizedArea.wanted_of.Goals as goal

pub returns-clause-bits : goal.returns-clause-bits
returns-clause-bits g c i =
    c.intersection.ensures.bits i ∙ ap (λ b. b && bit_in c.args.packed.now i) (ap (λ bits. bit_in bits i) c.dirty.ensures ∙ calls.touched_p c.self.view_is c.self.invariant i)

pub returns-clause-valid : goal.returns-clause-valid
returns-clause-valid g c = subst IsSizedArea c.self.view_is (is_place c.self.invariant)
