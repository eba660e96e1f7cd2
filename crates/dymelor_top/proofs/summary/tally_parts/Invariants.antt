use Rattle.std.proofs.Common.{◌≡◌, ◌+◌, ◌*◌, ◌^◌, ◌≤◌, length, take, sum_by}
use Rattle.dymelor_top.proofs.SummaryFacts.{Counted}
use Rattle.dymelor_top.proofs.summary.tally_parts.Given as goal

abbrev pub invariant-loop-part : goal.invariant-loop-part
invariant-loop-part l = record {
  counted : Counted l.version l.parts l.part-index l.tally;
  replies : l.tally.ok + l.tally.refused ≡ sum_by (λ part. length part.commands) (take l.part-index l.parts);
  chunks : l.tally.chunks ≤ l.part-index * 2 ^ 37;
  segments : l.tally.segments ≤ l.part-index * 1024;
  kept : l.tally.kept ≤ l.part-index * 256;
  slots : l.tally.slots ≤ l.part-index * 287;
}
