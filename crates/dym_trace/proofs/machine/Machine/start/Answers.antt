use Rattle.std.proofs.Common.{rules, arith, ◌≡◌, [], replicate, refl, None}
use Rattle.std.proofs.lemmas.List.{length-replicate}
use Rattle.dym_slots.specs.declared.machine.Slot.TheVariants.{Free}
use Rattle.dym_base.specs.declared.limits.TheConstants.{LOG_SLOTS}
use Rattle.dym_slots.specs.Slots.{start}
use Rattle.dym_trace.proofs.machine.Machine.start.Goals as goal

pub returns-clause-start : goal.returns-clause-start
returns-clause-start c =
    let slots : c.in_ok-vec.field-0.items ≡ replicate 320 Free = c.in_ok-vec.ensures.items_if_clones_equal (λ y same. same) in
    let homes : c.in_ok-vec-2.field-0.items ≡ replicate 320 None = c.in_ok-vec-2.ensures.items_if_clones_equal (λ y same. first_of (search rules, grind arith, cc)) in
    rw (slots, homes, c.in_ok-with_capacity.ensures.items, c.in_ok-with_capacity-2.ensures.items) refl

pub returns-clause-sound : goal.returns-clause-sound
returns-clause-sound c =
    let slots : c.in_ok-vec.field-0.items ≡ replicate 320 Free = c.in_ok-vec.ensures.items_if_clones_equal (λ y same. same) in
    record {
      slots = rw slots (length-replicate 320 Free);
      facts = rw (returns-clause-start c) (c.each_run_keeps_facts.ensures LOG_SLOTS [] (start LOG_SLOTS) refl).0;
    }
