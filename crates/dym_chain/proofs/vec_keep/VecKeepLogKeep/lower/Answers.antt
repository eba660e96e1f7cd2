use Rattle.std.proofs.Common.{◌≡◌, ◌<◌, Some, None, List, [], length, get_or, ap, sym, ◌∙◌}
use Rattle.std.proofs.lemmas.List.{get_or-map, get_or_default}
use Rattle.dym_base.specs.Origins.{own}
use Rattle.dym_slots.specs.Meanings.{Numbered, KeepMeaning, no_record}
use Rattle.dym_chain.specs.VecKeeps.{shown, bytes_out, place_out, no_slot}
use Rattle.dym_chain.specs.declared.vec_keep.Slot.{Slot}
use Rattle.dym_chain.proofs.Slots.{all_back, kept_lower, shown_lowered}
use Rattle.dym_chain.proofs.vec_keep.VecKeepLogKeep.lower.Goals.{After-index_mut}
use Rattle.dym_chain.proofs.vec_keep.VecKeepLogKeep.lower.Goals as goal

module _ (c : After-index_mut) where
  abbrev slots : List Slot
  slots = c.self.inside.slots.items

  abbrev slot : Slot
  slot = c.index_mut.result.now

  out : place_out c.self.inside.lifted ≡ Some c.args.place
  out = ap (λ (k : KeepMeaning). k.lifted) c.self.view_is ∙ c.requires.lifted

  within : c.args.place < length slots
  within = c.self.invariant.inside c.args.place out

  at : slot ≡ get_or slots c.args.place no_slot
  at = c.index_mut.ensures.value ∙ get_or_default slots c.args.place slot no_slot within

  -- the record that comes back is the one that is out
  same_bytes : c.args.rec ≡ (shown (bytes_out c.self.inside.lifted) slot).bytes
  same_bytes =
      let show = shown (bytes_out c.self.inside.lifted) in
      c.requires.bytes ∙ ap (λ (k : KeepMeaning). (get_or k.records c.args.place no_record).bytes) (sym c.self.view_is)
      ∙ ap (λ (r : Numbered). r.bytes) (get_or-map show slots c.args.place no_slot no_record within ∙ ap show (sym at))

pub invariant_of-self : goal.invariant_of-self
invariant_of-self c =
    let o = (goal.at.invariant_of-self c).After-index_mut in
    kept_lower c.args.place (slot o) c.args.rec c.self.invariant (out o) (at o) (same_bytes o)

pub returns : goal.returns
returns c =
    let o = (goal.at.returns c).After-index_mut in
    let i = c.self.inside in
    record {
      after = ap (λ (records : List Numbered). record { records = records; made = i.made; lifted = None; origin = own })
          (shown_lowered [] (bytes_out i.lifted) c.args.rec i.slots.items c.args.place (slot o) (all_back c.args.place (slot o).number c.args.rec c.self.invariant (out o)) (at o) (same_bytes o))
          ∙ ap (λ (k : KeepMeaning). record k { lifted = None }) c.self.view_is;
    }
