use Rattle.std.proofs.Common.{◌≡◌, ◌-◌, ◌*◌, map, replicate, vec_len, vec_capacity}
use Rattle.std.specs.List.{All}
use denote.RawPtr.{block_ptr}
use Rattle.dym_base.specs.declared.limits.TheConstants.{SEGMENT_BYTES}
use Rattle.dym_region.specs.Identity.{ids_of}
use Rattle.dym_region.specs.contracts.raw_segment.RawSegmentSegment.TheImpl.{ghosts}
use Rattle.dym_region.proofs.region.Region.new.Given as goal

abbrev pub invariant-loop-number : goal.invariant-loop-number
invariant-loop-number l = record {
  length : vec_len l.segments ≡ l.number;
  room : vec_capacity l.segments ≡ l.count;
  numbered : map ghosts.id l.segments.items ≡ ids_of l.claim.block l.number;
  zero : All (λ s. ghosts.content s ≡ replicate SEGMENT_BYTES 0) l.segments.items;
  rest_room : vec_capacity l.rest ≡ (l.count - l.number) * SEGMENT_BYTES;
  rest_place : l.rest.ptr ≡ block_ptr l.claim.block (l.number * SEGMENT_BYTES);
}
