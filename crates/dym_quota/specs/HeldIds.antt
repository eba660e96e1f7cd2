-- The identities of segments that are out.
use Rattle.std.specs.Prelude.{◌≡◌, List, ◌∷◌, ◌++◌}
use Rattle.dym_region.specs.declared.segment.SegmentId.{SegmentId}

-- one of the segments that are out has this identity
pub record IsHeld (ids : List SegmentId) (one : SegmentId) : Type 0 where
  pub front : List SegmentId
  pub back : List SegmentId
  pub is : ids ≡ front ++ one ∷ back

-- one segment of this identity is out no more
pub record GivesBack (old new : List SegmentId) (one : SegmentId) : Type 0 where
  pub front : List SegmentId
  pub back : List SegmentId
  pub was : old ≡ front ++ one ∷ back
  pub is : new ≡ front ++ back
