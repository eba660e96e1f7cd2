use Rattle.std.proofs.Common.{◌≡◌, ◌+◌, ◌≤◌, ◌^◌, length}
use Rattle.std.specs.FinMap.{len}
use Rattle.dym_heap.specs.Replies.{after_key}
use Rattle.dym_report.proofs.LiveWalk.{left_after}
use Rattle.dym_report.proofs.object_report.live_chunks.Given as goal

abbrev pub invariant-loop-handle : goal.invariant-loop-handle
invariant-loop-handle g l = record {
  count : l.chunks + length (left_after l.heap.state.live l.last) ≡ len l.heap.state.live;
  few : l.chunks ≤ after_key l.last;
  small : l.chunks ≤ 2 ^ 37;
}

abbrev pub decreases-loop-handle : goal.decreases-loop-handle
decreases-loop-handle g l = length (left_after l.heap.state.live l.last)
