use Rattle.std.proofs.Common.{◌-◌, ◌^◌, ◌≤◌}
use Rattle.dym_base.specs.Numbers.{number}
use Rattle.dym_heap.specs.Replies.{after_key}
use Rattle.dym_heap.proofs.NextLive.{NoneUpTo}
use Rattle.dym_heap.proofs.live_walk.next_from.Given as goal

abbrev pub invariant-loop-exp : goal.invariant-loop-exp
invariant-loop-exp g l = record {
  least : 5 ≤ l.exp;
  fits : l.from ≤ 2 ^ 32;
  start : after_key l.fn.after ≤ number l.exp l.from;
  none : NoneUpTo l.shelf (after_key l.fn.after) (number l.exp l.from);
}

abbrev pub decreases-loop-exp : goal.decreases-loop-exp
decreases-loop-exp g l = 17 - l.exp
