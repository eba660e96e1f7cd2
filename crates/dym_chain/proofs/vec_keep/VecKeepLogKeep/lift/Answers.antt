use Rattle.std.proofs.Common.{arith, ◌≡◌, ℕ, ◌<◌, Option, Some, None, List, length, map, get_or, ap, sym, subst, ◌∙◌, refl}
use Rattle.std.proofs.Math.ListN.{set}
use Rattle.std.proofs.lemmas.List.{length-map, get_or_default}
use Rattle.dym_base.specs.Origins.{own}
use Rattle.dym_slots.specs.Meanings.{Numbered, KeepMeaning}
use Rattle.dym_chain.specs.VecKeeps.{shown, bytes_out, place_out, no_slot, IsValidKeep}
use Rattle.dym_chain.specs.declared.vec_keep.Slot.{Slot}
use Rattle.dym_chain.specs.declared.vec_keep.Lifted.{Lifted}
use Rattle.dym_chain.proofs.Slots.{all_held, kept_lift, shown_lifted}
use Rattle.dym_chain.proofs.vec_keep.VecKeepLogKeep.lift.Goals.{After-of}
use Rattle.dym_chain.proofs.vec_keep.VecKeepLogKeep.lift.Goals as goal

module _ (c : After-of) where
  abbrev slots : List Slot
  slots = c.self.inside.slots.items

  abbrev slot : Slot
  slot = c.index_mut.result.now

  idle : place_out c.self.inside.lifted ≡ None
  idle = ap (λ (k : KeepMeaning). k.lifted) c.self.view_is ∙ c.requires.idle

  within : c.args.place < length slots
  within = omega (arith, length-map slots (shown (bytes_out c.self.inside.lifted)), ap (λ (k : KeepMeaning). length k.records) c.self.view_is, c.requires.place)

  at : slot ≡ get_or slots c.args.place no_slot
  at = c.index_mut.ensures.value ∙ get_or_default slots c.args.place slot no_slot within

  held : slot.held ≡ Some c.of.result.value
  held = sym c.take.ensures.value ∙ c.in-Some.is ∙ ap Some (sym c.of.ensures)

pub invariant_of-self : goal.invariant_of-self
invariant_of-self c =
    let o = (goal.at.invariant_of-self c).After-of in
    let i = c.self.inside in
    let new : Option Lifted = Some (record { place = c.args.place; bytes = c.of.result }) in
    subst (λ (h : Option (List ℕ)). IsValidKeep (set i.slots.items c.args.place (record { number = (slot o).number; held = h })) new i.made i.slots.cap) (sym c.take.ensures.after)
    (kept_lift c.args.place (slot o) new c.self.invariant (idle o) (within o) (at o) (held o) refl)

pub returns-clause-after : goal.returns-clause-after
returns-clause-after c =
    let o = (goal.at.returns-clause-after c).After-of in
    let i = c.self.inside in
    let out : List ℕ = c.of.result.value in
    let after : List Numbered → KeepMeaning = λ records. record { records = records; made = i.made; lifted = Some c.args.place; origin = own } in
    ap (λ (h : Option (List ℕ)). after (map (shown out) (set i.slots.items c.args.place (record { number = (slot o).number; held = h })))) c.take.ensures.after
    ∙ ap after (shown_lifted out (bytes_out i.lifted) i.slots.items c.args.place (slot o) (all_held c.self.invariant (idle o)) (at o) (held o))
    ∙ ap (λ (k : KeepMeaning). record k { lifted = Some c.args.place }) c.self.view_is
