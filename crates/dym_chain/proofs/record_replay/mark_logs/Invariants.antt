use Rattle.std.proofs.Common.{◌≡◌, ℕ, ◌+◌, ◌<◌, ◌≤◌, unwrap_or}
use Rattle.dym_heap.specs.Meaning.{IsSound}
use Rattle.dym_pack.specs.ParsedAreas.{OfLog}
use Rattle.dym_slots.specs.Meanings.{record_at}
use Rattle.dym_chain.specs.Differences.{difference_at}
use Rattle.dym_chain.specs.Loads.{PacksTouched, KeepsUnmodified}
use Rattle.dym_chain.proofs.record_replay.mark_logs.Given as goal

abbrev pub invariant-loop-i : goal.invariant-loop-i
invariant-loop-i g l = record {
  keep : g.K.LogKeep.meaning l.keep ≡ g.K.LogKeep.meaning l.fn.keep;
  same : l.heap ≡ record l.fn.heap { state = l.heap.state };
  sound : IsSound l.heap;
  unmodified : KeepsUnmodified l.fn.heap.state l.heap.state;
  marked : (j : ℕ) → l.kept ≤ j → j < l.i → OfLog (unwrap_or (difference_at l.differences.items j) (record_at (g.K.LogKeep.meaning l.fn.keep).records (l.base + j)).bytes) (PacksTouched l.heap.state);
}
