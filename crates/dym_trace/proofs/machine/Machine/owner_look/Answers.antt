use Rattle.std.proofs.Common.{◌≡◌, ◌<◌, ◌-◌, false, nat_eq, List, length, slice_get, ℕ, ap, sym, ◌∙◌, arith}
use Rattle.std.specs.List.{list_any}
use Rattle.std.proofs.lemmas.List.{get_or_read}
use Rattle.dym_slots.specs.declared.machine.Slot.TheVariants.{Free, OutSweeper}
use Rattle.dym_slots.specs.Slots.{state_of}
use Rattle.dym_slots.specs.SlotSteps.{remember}
use Rattle.dym_trace.specs.Machine.{core_of}
use Rattle.dym_trace.proofs.Held.{new_if_not_last, other_last}
use Rattle.dym_trace.proofs.machine.Machine.owner_look.Goals as goal

pub returns-in_ok-push : goal.returns-in_ok-push
returns-in_ok-push c =
    let inside : c.args.slot < length c.args.self.now.slots.items = let slots = c.requires.sound.slots in let slot = c.requires.slot in omega arith in
    let out : state_of (core_of c.args.self.now) c.args.slot ≡ OutSweeper c.in-OutSweeper.field-0 =
    sym (get_or_read c.args.self.now.slots.items c.args.slot c.index.result.now inside c.index.ensures Free) ∙ c.in-OutSweeper.is in
    let last : c.copied.result ≡ slice_get c.args.self.now.remembered.items (length c.args.self.now.remembered.items - 1) =
    rw (← c.deref.ensures.value) (c.copied.ensures ∙ c.last.ensures.value) in
    let new : list_any (λ t. nat_eq t c.args.slot) c.args.self.now.remembered.items ≡ false =
    new_if_not_last (core_of c.args.self.now) c.args.slot c.in-OutSweeper.field-0 c.requires.sound.facts out (other_last c.args.self.now.remembered.items c.copied.result c.args.slot c.if-ne.ensures last) in
    let after : c.push.new.self.items ≡ remember (state_of (core_of c.args.self.now) c.args.slot) c.args.slot c.args.self.now.remembered.items =
    rw (out, new) c.in_ok-push.ensures.items in
    record {
      exists = inside;
      after = ap (λ (r : List ℕ). record (core_of c.args.self.now) { owner = record (core_of c.args.self.now).owner { remembered = r } }) after;
    }
