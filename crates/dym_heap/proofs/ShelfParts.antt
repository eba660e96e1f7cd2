-- A shelf of parts that are told one by one.
use Rattle.std.proofs.Common.{ℕ, Bool, List}
use Rattle.dym_base.specs.declared.command.Version.{Version}
use Rattle.dym_region.specs.declared.segment.SegmentId.{SegmentId}
use Rattle.dym_heap.specs.SizedAreas.{SizedAreaMeaning}
use Rattle.dym_heap.specs.Arrangement.{IsShelf}

abbrev pub IsShelfOf : Version → ℕ → List SegmentId → List ℕ → List SizedAreaMeaning → List (List Bool)
    → ℕ → ℕ → ℕ → Type 0
IsShelfOf v quota ids starts sized_areas full room spare spare_room = IsShelf (record {
  version = v;
  quota = quota;
  ids = ids;
  starts = starts;
  sized_areas = sized_areas;
  full = full;
  room = room;
  spare = spare;
  spare_room = spare_room;
})
