use Rattle.std.proofs.Common.{ap, ◌∙◌}
use Rattle.dym_bits.specs.Bits.{bit_in}
use Rattle.dym_heap.proofs.LendingCalls as calls
use Rattle.dym_heap.proofs.sized_area.SizedArea.dirty_bits.Goals as goal

pub returns : goal.returns
returns g c = λ i. ap (λ bits. bit_in bits i) c.dirty.ensures ∙ calls.touched_p c.self.view_is c.self.invariant i
