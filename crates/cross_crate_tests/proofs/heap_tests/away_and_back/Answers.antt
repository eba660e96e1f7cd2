use Rattle.std.proofs.Common.{ap, rules, length, arith}
use Rattle.dym_base.specs.HeapStep.{key}
use Rattle.dym_heap.specs.Meaning.{HeapMeaning}
use Rattle.cross_crate_tests.proofs.HeapRooms.{length_again, room_again, within_away}
use Rattle.cross_crate_tests.proofs.heap_tests.away_and_back.Goals as goal

pub put_back-requires-clause-sized : goal.put_back-requires-clause-sized
put_back-requires-clause-sized c =
    length_again c.take_away.new.self.version c.args.h.exp c.args.h.index (length c.deref.result.now) c.in-Some.bytes.now c.requires
    (ap (λ (x : HeapMeaning). x.version) c.take_away.ensures.after) c.in-Some.ensures (omega (arith, c.in_ok-bytes.ensures.len)) (search rules)

pub put_back-requires-clause-within : goal.put_back-requires-clause-within
put_back-requires-clause-within c =
    room_again c.take_away.new.self (key c.args.h) c.in-Some.bytes.now c.deref.result.now c.requires c.in-Some.ensures
    (ap (λ (x : HeapMeaning). x.quota) c.take_away.ensures.after) (within_away c.args.heap.now c.args.heap.now c.take_away.new.self (key c.args.h) (ap (λ (x : HeapMeaning). x.state) c.take_away.ensures.after) (λ q has. has))
