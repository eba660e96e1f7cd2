use Rattle.std.proofs.Common.{◌≡◌, List, map, take}
use Rattle.std.specs.List.{AllByRecursion}
use Rattle.dym_base.specs.Packed.{Logged, packed}
use Rattle.dym_base.specs.Recorded.{IsRecorded}
use Rattle.dym_heap.specs.Meaning.{IsSound}
use Rattle.dym_chain.specs.Keeps.{bytes_of}
use Rattle.dym_view.specs.LoadedHeaps.{AreLoaded}
use Rattle.dym_view.proofs.oldest_heap.load_first.Given as goal

abbrev pub invariant-loop-place : goal.invariant-loop-place
invariant-loop-place g l = record {
  logs : g.L.KeptLogs.meaning l.logs ≡ g.L.KeptLogs.meaning l.fn.logs;
  same : l.heap ≡ record l.fn.heap { state = record { live = l.heap.state.live; touched = l.fn.heap.state.touched } };
  sound : IsSound l.heap;
  loaded : (all : List Logged) → AllByRecursion IsRecorded all → map packed all ≡ take l.count (bytes_of (g.L.KeptLogs.meaning l.fn.logs).records)
      → AreLoaded (take l.place all) l.fn.heap.state.live l.heap.state.live;
}
