use Rattle.std.proofs.Common.{Some, refl, sym, ap, ◌∙◌, ◌&&◌, not}
use Rattle.dym_base.specs.Numbers.{size}
use Rattle.dym_bits.specs.Bits.{bit_in}
use Rattle.dym_area.specs.Area.{AreaMeaning}
use Rattle.dym_heap.specs.Lengths.{numbers_of, version_of}
use Rattle.dym_heap.specs.SizedAreas.{len_of}
use Rattle.dym_heap.proofs.PlaceSteps.{is_place}
use Rattle.dym_heap.proofs.PlaceShapes as shapes
use Rattle.dym_heap.proofs.sized_area.SizedArea.shape.Goals as goal
use Rattle.dym_heap.proofs.sized_area.SizedArea.shape.Goals.{in-None, in-Some}

pub invariant_of-self : goal.invariant_of-self
invariant_of-self g c =
    elim c.match-self.branch [
      | in-None w ↦ rw w.self-inside-is (shapes.shaped_measured c.self.view_is c.self.invariant (numbers_of c.self.inside.lengths) c.args.use_bytes.now c.difference-unmodified.result c.difference-wanted.result c.set_dirty.ensures.valid c.set_from.ensures.after c.set_from.ensures.bits c.set_dirty.ensures.after (λ i. c.difference-unmodified.ensures.bits i ∙ (λ j. bit_in (c.used.ensures j) i && not (bit_in (c.dirty.ensures j) i))) (λ i. c.difference-wanted.ensures.bits i ∙ (λ j. bit_in (c.used-2.ensures j) i && not (bit_in c.difference-unmodified.result i))) refl (λ i l h. shapes.lens_none _ i (ap numbers_of w.in-None.is)) (λ i h. refl))
      | in-Some w ↦ rw w.self-inside-is (shapes.shaped_measured c.self.view_is c.self.invariant (Some w.note_all.new.lengths.table.items) c.args.use_bytes.now c.difference-unmodified.result c.difference-wanted.result c.set_dirty.ensures.valid c.set_from.ensures.after c.set_from.ensures.bits c.set_dirty.ensures.after (λ i. c.difference-unmodified.ensures.bits i ∙ (λ j. bit_in (c.used.ensures j) i && not (bit_in (c.dirty.ensures j) i))) (λ i. c.difference-wanted.ensures.bits i ∙ (λ j. bit_in (c.used-2.ensures j) i && not (bit_in c.difference-unmodified.result i))) (sym (ap version_of w.in-Some.is)) (λ i l h. w.note_all.ensures.noted i (ap (λ bits. bit_in bits i) (w.dirty-in-Some.ensures ∙ ap (λ (a : AreaMeaning). a.dirty) c.set_dirty.ensures.after) ∙ h) ∙ (c.size-size.ensures ∙ ap size (c.class.ensures ∙ ap (λ (a : AreaMeaning). a.exponent) c.set_dirty.ensures.after ∙ ap (λ (a : AreaMeaning). a.exponent) c.set_from.ensures.after))) (λ i h. w.note_all.ensures.others i (ap (λ bits. bit_in bits i) (w.dirty-in-Some.ensures ∙ ap (λ (a : AreaMeaning). a.dirty) c.set_dirty.ensures.after) ∙ h) ∙ sym (ap (λ x. len_of c.self.inside.area.exponent (numbers_of x) i) w.in-Some.is)))
    ]

pub returns : goal.returns
returns g c =
    elim c.match-self.branch [
      | in-None w ↦
          let now = shapes.shaped c.self.view_is c.self.invariant (numbers_of c.self.inside.lengths) c.args.use_bytes.now c.difference-unmodified.result c.difference-wanted.result c.set_dirty.ensures.valid c.set_from.ensures.after c.set_from.ensures.bits c.set_dirty.ensures.after (λ i. c.difference-unmodified.ensures.bits i ∙ (λ j. bit_in (c.used.ensures j) i && not (bit_in (c.dirty.ensures j) i))) (λ i. c.difference-wanted.ensures.bits i ∙ (λ j. bit_in (c.used-2.ensures j) i && not (bit_in c.difference-unmodified.result i))) refl (λ i l h. shapes.lens_none _ i (ap numbers_of w.in-None.is)) (λ i h. refl) in
          record { same = rw w.self-inside-is now.1; shaped = rw w.self-inside-is now.2; valid = rw w.self-inside-is (is_place now.0) }
      | in-Some w ↦
          let now = shapes.shaped c.self.view_is c.self.invariant (Some w.note_all.new.lengths.table.items) c.args.use_bytes.now c.difference-unmodified.result c.difference-wanted.result c.set_dirty.ensures.valid c.set_from.ensures.after c.set_from.ensures.bits c.set_dirty.ensures.after (λ i. c.difference-unmodified.ensures.bits i ∙ (λ j. bit_in (c.used.ensures j) i && not (bit_in (c.dirty.ensures j) i))) (λ i. c.difference-wanted.ensures.bits i ∙ (λ j. bit_in (c.used-2.ensures j) i && not (bit_in c.difference-unmodified.result i))) (sym (ap version_of w.in-Some.is)) (λ i l h. w.note_all.ensures.noted i (ap (λ bits. bit_in bits i) (w.dirty-in-Some.ensures ∙ ap (λ (a : AreaMeaning). a.dirty) c.set_dirty.ensures.after) ∙ h) ∙ (c.size-size.ensures ∙ ap size (c.class.ensures ∙ ap (λ (a : AreaMeaning). a.exponent) c.set_dirty.ensures.after ∙ ap (λ (a : AreaMeaning). a.exponent) c.set_from.ensures.after))) (λ i h. w.note_all.ensures.others i (ap (λ bits. bit_in bits i) (w.dirty-in-Some.ensures ∙ ap (λ (a : AreaMeaning). a.dirty) c.set_dirty.ensures.after) ∙ h) ∙ sym (ap (λ x. len_of c.self.inside.area.exponent (numbers_of x) i) w.in-Some.is)) in
          record { same = rw w.self-inside-is now.1; shaped = rw w.self-inside-is now.2; valid = rw w.self-inside-is (is_place now.0) }
    ]
