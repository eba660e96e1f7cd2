use Rattle.std.proofs.Common.{◌≡◌, ◌≤◌, map, vec_len, IsPermutation}
use Rattle.dym_region.specs.Identity.{AreDistinct}
use Rattle.dym_region.specs.contracts.raw_segment.RawSegmentSegment.TheImpl.{ghosts}
use Rattle.dym_wave.proofs.HandingOver.{HandedOver}
use Rattle.dym_wave.proofs.object_queue.run_waves.Given as goal

abbrev pub invariant-loop-alloc : goal.invariant-loop-alloc
invariant-loop-alloc g l = record {
  options : l.object_queue.options ≡ l.initial.object_queue.options;
  enough : l.object_queue.most ≤ vec_len l.segments;
  distinct : AreDistinct (map ghosts.id l.segments.items);
  segments : IsPermutation (map ghosts.id l.initial.segments.items) (map ghosts.id l.segments.items);
  handed_over : HandedOver g.C.Consumer.can_take g.C.Consumer.takes g.C.Consumer.fails l.initial.object_queue.options.report
      l.initial.object_queue.parts.items l.object_queue.parts.items l.initial.output l.output;
}

abbrev pub decreases-loop-alloc : goal.decreases-loop-alloc
decreases-loop-alloc g l = l.object_queue.parts.len
