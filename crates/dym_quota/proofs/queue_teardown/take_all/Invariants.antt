use Rattle.std.proofs.Common.{◌≡◌, ◌+◌, ◌++◌, length, map, vec_len, vec_capacity}
use Rattle.crossbeam_queue.specs.Passes.{view, IsPassOf}
use Rattle.dym_region.specs.contracts.raw_segment.RawSegmentSegment.TheImpl.{ghosts}
use Rattle.dym_quota.proofs.queue_teardown.take_all.Given as goal

abbrev pub invariant-loop-k : goal.invariant-loop-k
invariant-loop-k g l = record {
  queue : IsPassOf l.line l.keeper;
  all : length (view l.keeper).held ≡ l._k;
  taken : map ghosts.id l.segments.items ≡ map ghosts.id l.initial.segments.items ++ (view l.keeper).held;
  quota : (view l.keeper).quota ≡ (view l.initial.keeper).quota;
  stock : (view l.keeper).stock ≡ (view l.initial.keeper).stock;
  capacity : vec_capacity l.segments ≡ vec_capacity l.initial.segments;
  count : vec_len l.segments ≡ vec_len l.initial.segments + l._k;
}
