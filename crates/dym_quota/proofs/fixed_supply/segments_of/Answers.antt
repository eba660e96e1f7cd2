use Rattle.std.proofs.Common.{◌∷◌, [], ◌++◌, length, sym, ap, ◌∙◌, arith}
use Rattle.std.proofs.lemmas.Iterator.Adapters.{YieldsList-from_vec}
use Rattle.std.proofs.lemmas.Iterator.Consumers.{YieldsList-turn}
use Rattle.dym_quota.specs.Bound.{present}
use Rattle.dym_quota.proofs.Missing.{present_some, present_none, length-present}
use Rattle.dym_quota.proofs.fixed_supply.segments_of.Goals as goal

pub push_reserved-requires : goal.push_reserved-requires
push_reserved-requires c =
    let slots = c.args.slots in
    let loop = c.loop-slot in
    let gives = c.into_iter-slot-iterator.ensures.into_iter_gives in
    let yields = YieldsList-from_vec {s = c.into_iter-slot-iterator.result} slots.items gives.0 (gives.1 ∙ slots.ok.0) in
    let turn = YieldsList-turn yields loop.yielded loop.slot-iterator loop.yielded_by c.next.result c.next.new.self c.in-Some.slot c.in-Some.is c.next.ensures.steps in
    omega (arith, turn.0, length-present loop.yielded, loop.list.ok.0, slots.ok.0, ap length loop.invariant.list, loop.invariant.room, c.requires.room)

pub loop-slot-preserved-in-Some-slot : goal.loop-slot-preserved-in-Some-slot
loop-slot-preserved-in-Some-slot c = record {
  list = c.push_reserved.ensures.items ∙ ap (λ l. l ++ c.in-Some-slot.segment ∷ []) c.loop-slot.invariant.list ∙ sym (present_some c.loop-slot.yielded c.in-Some-slot.segment)
      ∙ ap (λ slot. present (c.loop-slot.yielded ++ slot ∷ [])) (sym c.in-Some-slot.is);
  room = c.push_reserved.ensures.capacity ∙ c.loop-slot.invariant.room;
}

pub loop-slot-preserved : goal.loop-slot-preserved
loop-slot-preserved c = record {
  list = c.loop-slot.invariant.list ∙ sym (present_none c.loop-slot.yielded) ∙ ap (λ slot. present (c.loop-slot.yielded ++ slot ∷ [])) (sym c.in_default.is);
  room = c.loop-slot.invariant.room;
}
