use Rattle.std.proofs.Common.{vec_capacity}
use Rattle.dym_base.specs.declared.limits.TheConstants.{SEGMENT_BYTES}
use Rattle.dym_region.proofs.Zeros.{none_used}
use Rattle.dym_region.proofs.vec_segment.VecSegment.new.Goals as goal

pub returns : goal.returns
returns c =
    let bytes = c.in_ok-bytes.bytes in
    none_used (vec_capacity bytes) SEGMENT_BYTES bytes.items c.in_ok-bytes.ensures.items c.in_ok-bytes.ensures.exact
