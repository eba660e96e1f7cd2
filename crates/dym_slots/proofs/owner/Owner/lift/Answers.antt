use Rattle.std.proofs.Common.{ap, ◌∙◌, subst, ◌<◌, [], ◌∷◌, None, Some, length, ℕ}
use Rattle.std.proofs.lemmas.Option.{same_Some}
use Rattle.dym_slots.specs.SeatViews.{owner_of}
use Rattle.dym_slots.specs.TableStates.{Knowing}
use Rattle.dym_slots.specs.Meanings.{KeepMeaning, record_at}
use Rattle.dym_slots.proofs.OwnerSays.{slot_here, count_of_records, has_entry, number_fits, in_list, bytes_here, held_stands, sits_still}
use Rattle.dym_slots.proofs.owner.Owner.lift.Goals as goal

pub take_out-rec-requires-clause-listed : goal.take_out-rec-requires-clause-listed
take_out-rec-requires-clause-listed c =
    let s = c.self.invariant.stands in
    let lt = in_list c.args.place c.self.view_is (count_of_records s) c.requires.place in
    has_entry s c.args.place _ _ lt c.index.ensures c.index-number.ensures

pub take_out-rec-requires-clause-number : goal.take_out-rec-requires-clause-number
take_out-rec-requires-clause-number c =
    let s = c.self.invariant.stands in
    let lt = in_list c.args.place c.self.view_is (count_of_records s) c.requires.place in
    number_fits s c.args.place _ lt c.index-number.ensures

pub invariant_of-self : goal.invariant_of-self
invariant_of-self c =
    let i = c.self.inside in
    let inv = c.self.invariant in
    let s = inv.stands in
    let place = c.args.place in
    let lt = in_list place c.self.view_is (count_of_records s) c.requires.place in
    let at = slot_here s place c.index.result.now lt c.index.ensures in
    let after = c.take_out-rec.ensures.after in
    record {
      seated = sits_still c.take_out-rec.ensures.table inv.seated;
      stands = held_stands s c.index.result.now c.take_out-rec.new.seat.me None after;
      room = inv.room;
      inside = λ p is. subst (λ q. q < length i.numbers.items) (same_Some place p is) lt;
      out = (
        ap (λ (m : Knowing). (owner_of m.0).out) after ∙ ap (λ (t : ℕ). Some t) at,
        ap (λ (m : Knowing). m.1) after ∙ ap (λ (t : ℕ). (t, None) ∷ []) at,
      );
    }

pub returns-clause-bytes : goal.returns-clause-bytes
returns-clause-bytes c =
    let s = c.self.invariant.stands in
    let lt = in_list c.args.place c.self.view_is (count_of_records s) c.requires.place in
    bytes_here s c.args.place _ _ _ lt c.index.ensures c.take_out-rec.ensures.bytes ∙ ap (λ (m : KeepMeaning). (record_at m.records c.args.place).bytes) c.self.view_is
