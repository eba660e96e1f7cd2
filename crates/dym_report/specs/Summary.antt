-- The summary of a script: what an object comes to, and what objects come to together.
use Rattle.std.specs.Prelude.{ℕ, ◌+◌, not, List, count_by}
use Rattle.std.specs.FinMap.{len}
use Rattle.dym_base.specs.Heaps.{Live, held}
use Rattle.dym_base.specs.declared.reply.Reply.{Reply}
pub use Rattle.dym_commands.specs.Replies.{is_refusal}
use Rattle.dym_report.specs.declared.totals.Totals.{Totals}
use Rattle.dym_report.specs.declared.tally.Tally.{Tally}

-- what an object comes to that gave these replies, has these chunks, and keeps so many logs in so many records: its replies that are no
-- refusals and those that are, its live chunks, the segments that they need, its kept logs, and the records that these take
abbrev pub tally_with : List Reply → Live → ℕ → ℕ → Tally
tally_with replies live kept slots = record {
  ok = count_by (λ r. not (is_refusal r)) replies;
  refused = count_by is_refusal replies;
  chunks = len live;
  segments = held live;
  kept = kept;
  slots = slots;
}

abbrev pub no_tally : Tally
no_tally = record { ok = 0; refused = 0; chunks = 0; segments = 0; kept = 0; slots = 0 }

abbrev pub both_tallies : Tally → Tally → Tally
both_tallies a b = record {
  ok = a.ok + b.ok;
  refused = a.refused + b.refused;
  chunks = a.chunks + b.chunks;
  segments = a.segments + b.segments;
  kept = a.kept + b.kept;
  slots = a.slots + b.slots;
}

-- the eight numbers of so many objects that come to this together
abbrev pub totals_with : ℕ → Tally → Totals
totals_with objects tally = record {
  objects = objects;
  commands = tally.ok + tally.refused;
  ok = tally.ok;
  refused = tally.refused;
  chunks = tally.chunks;
  segments = tally.segments;
  kept = tally.kept;
  slots = tally.slots;
}
