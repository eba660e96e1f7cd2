use Rattle.std.proofs.Common.{◌≡◌, ◌-◌, ◌^◌}
use Rattle.dym_heap.specs.Meaning.{IsSound}
use Rattle.dym_heap.specs.Replies.{after_key}
use Rattle.dym_undo_files.proofs.Differing.{ArePassed}
use Rattle.dym_undo_files.proofs.chunk_bytes.touch_differing.Given as goal

abbrev pub invariant-loop-h : goal.invariant-loop-h
invariant-loop-h l = record {
  passed : ArePassed l.before.state.live l.heap.state (after_key l.last);
  lives : l.heap.state.live ≡ l.fn.heap.state.live;
  same : l.heap ≡ record l.fn.heap { state = l.heap.state };
  sound : IsSound l.heap;
}

abbrev pub decreases-loop-h : goal.decreases-loop-h
decreases-loop-h l = 2 ^ 37 - after_key l.last
