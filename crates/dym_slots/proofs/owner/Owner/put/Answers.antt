use Rattle.std.proofs.Common.{ap, ◌∙◌, sym, subst, arith, ◌<◌, ℕ}
use Rattle.dym_slots.specs.declared.machine.TheConstants.{RECORD_NUMBERS}
use Rattle.dym_slots.specs.SeatViews.{owner_of}
use Rattle.dym_slots.specs.TableStates.{Knowing}
use Rattle.dym_slots.specs.Meanings.{KeepMeaning}
use Rattle.dym_slots.specs.Moves.{IsUnlisted}
use Rattle.dym_slots.proofs.OwnerSays.{count_of_records, unlisted_here, put_after, put_room, sits_still, idle_out, never_inside}
use Rattle.dym_slots.proofs.owner.Owner.put.Goals as goal

pub hold_spare-slot-requires-clause-room : goal.hold_spare-slot-requires-clause-room
hold_spare-slot-requires-clause-room c = put_room c.self.view_is (count_of_records c.self.invariant.stands) c.requires.room

pub put_into-requires-clause-unlisted : goal.put_into-requires-clause-unlisted
put_into-requires-clause-unlisted c =
    let h = c.hold_spare-slot.ensures in
    subst (λ (s : ℕ). IsUnlisted s (owner_of c.hold_spare-slot.new.seat.me.0).list) (sym h.slot) (unlisted_here h.stands _ h.seized.same)

pub push_reserved-requires : goal.push_reserved-requires
push_reserved-requires c =
    let room = put_room c.self.view_is (count_of_records c.self.invariant.stands) c.requires.room in
    let fits = c.self.invariant.room in
    let n = c.self.inside.numbers.ok.0 in
    omega arith

pub invariant_of-self : goal.invariant_of-self
invariant_of-self c =
    let i = c.self.inside in
    let inv = c.self.invariant in
    let h = c.hold_spare-slot.ensures in
    let quiet = ap (λ (m : KeepMeaning). m.lifted) c.self.view_is ∙ c.requires.idle in
    let left : i.made < RECORD_NUMBERS = let e = ap (λ (m : KeepMeaning). m.made) c.self.view_is in let r = c.requires.made in omega arith in
    let room = put_room c.self.view_is (count_of_records inv.stands) c.requires.room in
    let now = c.put_into.ensures.after in
    record {
      seated = sits_still (c.put_into.ensures.table ∙ h.table) inv.seated;
      stands = put_after h.stands _ c.hold_spare-slot.result c.hold_spare-slot.new.seat.me _ c.args.rec h.seized.same room left h.slot c.push_reserved.ensures.items now;
      room = (let cap = c.push_reserved.ensures.capacity in let old = inv.room in omega arith);
      inside = never_inside _ quiet;
      out = idle_out _ _ quiet (ap (λ (m : Knowing). (owner_of m.0).out) now) (ap (λ (m : Knowing). m.1) now);
    }
