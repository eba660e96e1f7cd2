use Rattle.std.proofs.Common.{◌≡◌, ◌+◌, ◌*◌, ◌≤◌, map, vec_len, vec_capacity}
use denote.RawPtr.{block_ptr}
use Rattle.dym_base.specs.declared.limits.TheConstants.{SEGMENT_BYTES}
use Rattle.dym_region.specs.Identity.{ids_of}
use Rattle.dym_region.specs.contracts.raw_segment.RawSegmentSegment.TheImpl.{ghosts}
use Rattle.dym_region.proofs.region.Region.reunited.Given as goal

abbrev pub invariant-loop-segment : goal.invariant-loop-segment
invariant-loop-segment l = record {
  numbered : map ghosts.id l.segments.items ≡ ids_of l.fn.self.id (vec_len l.segments);
  most : vec_len l.segments ≤ l.fn.self.count;
  rest_place : l.rest.ptr ≡ block_ptr l.fn.self.id (vec_len l.segments * SEGMENT_BYTES);
  rest_size : vec_capacity l.rest + vec_len l.segments * SEGMENT_BYTES ≡ l.fn.self.count * SEGMENT_BYTES;
}

abbrev pub decreases-loop-segment : goal.decreases-loop-segment
decreases-loop-segment l = vec_len l.segments
