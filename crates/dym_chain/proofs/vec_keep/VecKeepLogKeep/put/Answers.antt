use Rattle.std.proofs.Common.{arith, ◌+◌, ◌<◌, length, ap, sym, subst, ◌∙◌}
use Rattle.std.proofs.lemmas.List.{length-map}
use Rattle.std.specs.VecDeque.{deque_capacity}
use Rattle.dym_slots.specs.Meanings.{KeepMeaning}
use Rattle.dym_chain.specs.VecKeeps.{shown, bytes_out, IsValidKeep}
use Rattle.dym_chain.proofs.Slots.{kept_push}
use Rattle.dym_chain.proofs.vec_keep.VecKeepLogKeep.put.Goals as goal

pub invariant_of-self : goal.invariant_of-self
invariant_of-self c =
    let i = c.self.inside in
    let few : length i.slots.items < 288 = omega (arith, length-map i.slots.items (shown (bytes_out i.lifted)), ap (λ (k : KeepMeaning). length k.records) c.self.view_is, c.requires.room) in
    subst (λ l. IsValidKeep l i.lifted (i.made + 1) (deque_capacity c.push_back_reserved.new.self)) (sym c.push_back_reserved.ensures.items)
    (kept_push c.args.rec c.push_back_reserved.ensures.capacity few (ap (λ (k : KeepMeaning). k.lifted) c.self.view_is ∙ c.requires.idle) c.self.invariant)
