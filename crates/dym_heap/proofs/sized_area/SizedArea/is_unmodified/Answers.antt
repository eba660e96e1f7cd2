use Rattle.std.proofs.Common.{ap, sym, ◌∙◌, arith}
use Rattle.dym_bits.specs.Bits.{bit_in}
use Rattle.dym_heap.proofs.Cleans.{settled_place}
use Rattle.dym_heap.proofs.LendingCalls as calls
use Rattle.dym_heap.proofs.sized_area.SizedArea.is_unmodified.Goals as goal

pub returns-in-None : goal.returns-in-None
returns-in-None g c h =
    settled_place c.args.self.now
    (λ i. sym (ap (λ bits. bit_in bits i) c.dirty.ensures ∙ calls.touched_p c.self.view_is c.self.invariant i) ∙ c.in-None.ensures i (omega arith))
