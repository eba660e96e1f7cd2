use Rattle.std.proofs.Common.{◌*◌, ◌/◌, ◌<◌, length}
use Rattle.warp_worker.proofs.queue.raise.Given as goal

abbrev pub invariant-loop-node : goal.invariant-loop-node
invariant-loop-node l = l.node < 2 * (length l.tree / 2)

abbrev pub decreases-loop-node : goal.decreases-loop-node
decreases-loop-node l = l.node
