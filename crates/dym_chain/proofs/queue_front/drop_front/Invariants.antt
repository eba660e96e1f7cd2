use Rattle.std.proofs.Common.{◌≡◌, drop}
use Rattle.std.specs.VecDeque.{deque_capacity}
use Rattle.dym_chain.proofs.queue_front.drop_front.Given as goal

abbrev pub invariant-loop : goal.invariant-loop
invariant-loop g l = record {
  items : l.items.items ≡ drop l.counter l.fn.items.items;
  capacity : deque_capacity l.items ≡ deque_capacity l.fn.items;
}
