use Rattle.std.proofs.Common.{◌≡◌, ◌+◌, true, [], ◌++◌, length, map, reverse, vec_len, vec_capacity}
use Rattle.crossbeam_queue.specs.Passes.{view, IsPassOf}
use Rattle.dym_region.specs.contracts.raw_segment.RawSegmentSegment.TheImpl.{ghosts}
use Rattle.dym_quota.proofs.queue_setup.stock_last.Given as goal

abbrev pub invariant-loop-k : goal.invariant-loop-k
invariant-loop-k g l = record {
  queue : IsPassOf l.line l.pass;
  opens : (view l.pass).opens ≡ true;
  quota : (view l.pass).quota ≡ l._k;
  nothing_held : (view l.pass).held ≡ [];
  stocked : length (view l.pass).stock ≡ l._k;
  order : (view l.pass).stock ++ reverse (map ghosts.id l.segments.items) ≡ reverse (map ghosts.id l.initial.segments.items);
  rest : vec_len l.segments + l._k ≡ vec_len l.initial.segments;
  room : vec_capacity l.segments ≡ vec_capacity l.initial.segments;
}
