use Rattle.std.proofs.Common.{◌-◌, ◌≤◌, length}
use Rattle.warp_worker.proofs.queue.earliest_leaf.Given as goal

abbrev pub invariant-loop-node : goal.invariant-loop-node
invariant-loop-node l = 1 ≤ l.node

abbrev pub decreases-loop-node : goal.decreases-loop-node
decreases-loop-node l = length l.tree - l.node
