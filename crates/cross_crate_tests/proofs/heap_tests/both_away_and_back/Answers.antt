use Rattle.std.proofs.Common.{ap, ◌∙◌, rules, length, arith}
use Rattle.dym_base.specs.HeapStep.{key}
use Rattle.dym_heap.specs.Meaning.{HeapMeaning}
use Rattle.cross_crate_tests.proofs.HeapRooms.{length_again, room_again, within_away, within_back}
use Rattle.cross_crate_tests.proofs.heap_tests.both_away_and_back.Goals as goal

pub put_back-requires-clause-sized : goal.put_back-requires-clause-sized
put_back-requires-clause-sized c =
    length_again c.take_away-2.new.self.version c.args.first.exp c.args.first.index (length c.deref.result.now) c.in-Some.bytes.now c.requires
    (ap (λ (x : HeapMeaning). x.version) c.take_away-2.ensures.after ∙ ap (λ (x : HeapMeaning). x.version) c.take_away.ensures.after) c.in-Some.ensures (omega (arith, c.in_ok-first_bytes.ensures.len)) (search rules)

pub put_back-requires-clause-within : goal.put_back-requires-clause-within
put_back-requires-clause-within c =
    room_again c.take_away-2.new.self (key c.args.first) c.in-Some.bytes.now c.deref.result.now c.requires c.in-Some.ensures
    (ap (λ (x : HeapMeaning). x.quota) c.take_away-2.ensures.after ∙ ap (λ (x : HeapMeaning). x.quota) c.take_away.ensures.after)
    (within_away c.args.heap.now c.take_away.new.self c.take_away-2.new.self (key c.args.second) (ap (λ (x : HeapMeaning). x.state) c.take_away-2.ensures.after) (within_away c.args.heap.now c.args.heap.now c.take_away.new.self (key c.args.first) (ap (λ (x : HeapMeaning). x.state) c.take_away.ensures.after) (λ q has. has)))

pub put_back-requires-2-clause-sized : goal.put_back-requires-2-clause-sized
put_back-requires-2-clause-sized c =
    length_again c.put_back.new.self.version c.args.second.exp c.args.second.index (length c.deref-2.result.now) c.in-Some-bytes.bytes.now c.requires
    (ap (λ (x : HeapMeaning). x.version) c.put_back.ensures.after ∙ ap (λ (x : HeapMeaning). x.version) c.take_away-2.ensures.after ∙ ap (λ (x : HeapMeaning). x.version) c.take_away.ensures.after)
    c.in-Some-bytes.ensures (omega (arith, c.in_ok-second_bytes.ensures.len)) (search rules)

pub put_back-requires-2-clause-within : goal.put_back-requires-2-clause-within
put_back-requires-2-clause-within c =
    room_again c.put_back.new.self (key c.args.second) c.in-Some-bytes.bytes.now c.deref-2.result.now c.requires c.in-Some-bytes.ensures
    (ap (λ (x : HeapMeaning). x.quota) c.put_back.ensures.after ∙ ap (λ (x : HeapMeaning). x.quota) c.take_away-2.ensures.after ∙ ap (λ (x : HeapMeaning). x.quota) c.take_away.ensures.after)
    (within_back c.args.heap.now c.take_away-2.new.self c.put_back.new.self (key c.args.first) c.in-Some.bytes.now c.deref.result.now (ap (λ (x : HeapMeaning). x.state) c.put_back.ensures.after) c.in-Some.ensures
    (within_away c.args.heap.now c.take_away.new.self c.take_away-2.new.self (key c.args.second) (ap (λ (x : HeapMeaning). x.state) c.take_away-2.ensures.after) (within_away c.args.heap.now c.args.heap.now c.take_away.new.self (key c.args.first) (ap (λ (x : HeapMeaning). x.state) c.take_away.ensures.after) (λ q has. has))))
