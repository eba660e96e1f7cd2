use Rattle.std.proofs.Common.{◌≡◌, ◌+◌, ◌-◌, List, map, take, drop}
use Rattle.std.specs.List.{AllByRecursion}
use Rattle.dym_base.specs.Packed.{Logged, packed}
use Rattle.dym_base.specs.Recorded.{IsRecorded}
use Rattle.dym_heap.specs.Meaning.{IsSound}
use Rattle.dym_chain.specs.Keeps.{bytes_of}
use Rattle.dym_chain.specs.Loads.{AreFetched}
use Rattle.dym_chain.proofs.record_replay.fetch_down.Given as goal

abbrev pub invariant-loop-back : goal.invariant-loop-back
invariant-loop-back g l = record {
  keep : g.K.LogKeep.meaning l.keep ≡ g.K.LogKeep.meaning l.fn.keep;
  same : l.heap ≡ record l.fn.heap { state = l.heap.state };
  sound : IsSound l.heap;
  fetched : (logs : List Logged) → AllByRecursion IsRecorded logs → map packed logs ≡ take l.count (drop (l.last + 1 - l.count) (bytes_of (g.K.LogKeep.meaning l.fn.keep).records)) → AreFetched (drop (l.count - l.back) logs) l.fn.heap.state l.heap.state;
}
