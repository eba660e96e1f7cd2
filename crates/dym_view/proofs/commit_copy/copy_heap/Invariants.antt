use Rattle.std.proofs.Common.{◌-◌, ◌*◌, ◌^◌, ◌≤◌, length, vec_len}
use Rattle.std.specs.FinMap.{entries}
use Rattle.dym_heap.specs.Replies.{after_key}
use Rattle.dym_view.specs.Copies.{entries_of, IsTable}
use Rattle.dym_view.proofs.Entries.{IsMet}
use Rattle.dym_view.proofs.Walks.{rank}
use Rattle.dym_view.proofs.commit_copy.copy_heap.Given as goal

abbrev pub invariant-loop-h : goal.invariant-loop-h
invariant-loop-h l = record {
  table : IsTable l.copied;
  met : IsMet (entries l.heap.state.live) (entries_of l.copied) (after_key l.last);
  count : vec_len l.copied.chunk_ranges ≤ rank (after_key l.last);
  few : vec_len l.copied.chunk_ranges ≤ 2 ^ 26;
  total : l.copied.total ≤ vec_len l.copied.chunk_ranges * 2 ^ 24;
}

abbrev pub decreases-loop-h : goal.decreases-loop-h
decreases-loop-h l = length (entries l.heap.state.live) - vec_len l.copied.chunk_ranges
