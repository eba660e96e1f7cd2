use Rattle.std.proofs.Common.{◌≡◌, List, None, map, ap, sym, ◌∙◌}
use Rattle.std.proofs.lemmas.List.{drop-map}
use Rattle.dym_base.specs.Origins.{own}
use Rattle.dym_slots.specs.Meanings.{Numbered, KeepMeaning, from}
use Rattle.dym_chain.specs.VecKeeps.{shown, bytes_out, place_out}
use Rattle.dym_chain.specs.declared.vec_keep.Slot.{Slot}
use Rattle.dym_chain.proofs.Slots.{kept_drop}
use Rattle.dym_chain.proofs.vec_keep.VecKeepLogKeep.raise.Goals as goal

pub invariant_of-self : goal.invariant_of-self
invariant_of-self c =
    let i = c.self.inside in
    let idle : place_out i.lifted ≡ None = ap (λ (k : KeepMeaning). k.lifted) c.self.view_is ∙ c.requires.idle in
    kept_drop c.args.place c.drop_front.ensures.capacity c.drop_front.ensures.items idle c.self.invariant

pub returns : goal.returns
returns c =
    let i = c.self.inside in
    record {
      after =
          ap (λ (slots : List Slot). record { records = map (shown (bytes_out i.lifted)) slots; made = i.made; lifted = place_out i.lifted; origin = own }) c.drop_front.ensures.items
          ∙ ap (λ (records : List Numbered). record { records = records; made = i.made; lifted = place_out i.lifted; origin = own }) (sym (drop-map (shown (bytes_out i.lifted)) c.args.place i.slots.items))
          ∙ ap (λ (k : KeepMeaning). from k c.args.place) c.self.view_is;
    }
