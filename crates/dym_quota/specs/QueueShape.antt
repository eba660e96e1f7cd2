-- What is seen of a queue of segments.
use Rattle.std.specs.Prelude.{ℕ, List}
use Rattle.atomic_table.specs.Seated.{TableId}
use Rattle.crossbeam_queue.specs.Passes.{Pass, view}
use Rattle.dym_base.specs.Origins.{TableName}
use Rattle.dym_region.specs.declared.segment.SegmentId.{SegmentId}
use Rattle.dym_region.specs.declared.raw_segment.RawSegment.{RawSegment}
use Rattle.dym_quota.specs.declared.pass_view.PassView.{PassView}

-- the name of a shared table, as plain data
abbrev pub table_name : TableId → TableName
table_name t = record { words = t.words; slots = t.slots; views_name = t.views_name; atom = t.atom; block = t.block; offset = t.offset; slot_names = t.slot_names }

-- the name of the queue that a pass belongs to
abbrev pub queue_name : Pass RawSegment PassView → TableName
queue_name p = table_name p.table_id

-- what a pass knows
abbrev pub known_by : Pass RawSegment PassView → PassView
known_by p = view p

-- a queue by its name, the identities that were put into it, those that were laid aside, and the room of the list that they came in
pub record QueueShape : Type 0 where
  pub name : TableName
  pub stocked : List SegmentId
  pub aside : List SegmentId
  pub room : ℕ
