use Rattle.std.proofs.Common.{arith}
use Rattle.dym_heap.proofs.Aligned.{aligned}
use Rattle.dym_heap.proofs.laws.chunks_are_aligned.Goals as goal

pub returns : goal.returns
returns c quota h class = (aligned quota h.exp h (omega arith) class.1, aligned quota 4 h (omega (arith, class.0)) class.1)
