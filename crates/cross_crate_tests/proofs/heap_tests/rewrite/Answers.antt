use Rattle.std.proofs.Common.{refl, rules, length, arith}
use Rattle.dym_base.specs.HeapStep.{key}
use Rattle.cross_crate_tests.proofs.HeapRooms.{length_again, room_again}
use Rattle.cross_crate_tests.proofs.heap_tests.rewrite.Goals as goal

pub put_back-requires-clause-sized : goal.put_back-requires-clause-sized
put_back-requires-clause-sized c =
    length_again c.args.heap.now.version c.args.h.exp c.args.h.index (length c.deref.result.now) c.in-Some.bytes.now c.requires refl c.in-Some.ensures
    (omega (arith, c.in_ok-other.ensures.len)) (search rules)

pub put_back-requires-clause-within : goal.put_back-requires-clause-within
put_back-requires-clause-within c = room_again c.args.heap.now (key c.args.h) c.in-Some.bytes.now c.deref.result.now c.requires c.in-Some.ensures refl (λ q has. has)
