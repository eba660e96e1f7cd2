use Rattle.std.proofs.Common.{[], ap, ◌∙◌, sym, subst, arith, ◌≡◌, ℕ, List, length, IsPermutation}
use Rattle.std.proofs.lemmas.List.{take_at, get_or_default}
use Rattle.dym_slots.specs.SeatViews.{owner_of, raised_to}
use Rattle.dym_base.specs.Origins.{shared}
use Rattle.dym_slots.specs.declared.view.SeatView.TheVariants.{Owns}
use Rattle.dym_slots.specs.TableStates.{Held, Knowing}
use Rattle.dym_slots.specs.Meanings.{KeepMeaning, from, name_of}
use Rattle.dym_slots.specs.Orders.{IsOrder, Stands, slot_at, retired}
use Rattle.dym_slots.proofs.OwnerSays.{fits, count_of_records, has_entry, in_list, raised_is, raised_stands, raised_records, sits_still, out_idle, idle_out, never_inside}
use Rattle.dym_slots.proofs.Places.{order_permutation}
use Rattle.dym_slots.proofs.owner.Owner.raise.Goals as goal

pub raise_root-requires-clause-listed : goal.raise_root-requires-clause-listed
raise_root-requires-clause-listed c =
    let s = c.self.invariant.stands in
    let lt = in_list c.args.place c.self.view_is (count_of_records s) c.requires.place in
    let order = c.self.inside.order.items in
    let f = fits s in
    (slot_at order c.args.place, has_entry s c.args.place (slot_at order c.args.place) _ lt (get_or_default order c.args.place 0 _ (omega arith)) c.index-number.ensures)

pub invariant_of-self : goal.invariant_of-self
invariant_of-self c =
    let i = c.self.inside in
    let inv = c.self.invariant in
    let s = inv.stands in
    let order = i.order.items in
    let lt = in_list c.args.place c.self.view_is (count_of_records s) c.requires.place in
    let f = fits s in
    let quiet = ap (λ (m : KeepMeaning). m.lifted) c.self.view_is ∙ c.requires.idle in
    let idle = out_idle _ _ quiet inv.out in
    let n = c.index-number.result.now in
    let lent = c.deref_mut.ensures.value in
    let turned = order_permutation _ _ s.order_is (subst (λ (l : List ℕ). IsPermutation l c.retire.new.order) lent c.retire.ensures.permutation) in
    let moved = c.retire.ensures.after ∙ ap (retired _ c.args.place) lent in
    let size : i.order.len ≡ length order = sym c.deref_mut.ensures.len ∙ ap length lent in
    let items = take_at c.retire.new.order _ i.order.len (let n = turned.size in let m = s.order_is.size in omega arith) ∙ moved in
    let now : c.raise_root.new.seat.me ≡ (Owns (raised_to n (owner_of i.seat.me.0)), [])
    = c.raise_root.ensures.after ∙ ap (λ (l : List (ℕ × Held)). (Owns (raised_to n (owner_of i.seat.me.0)), l)) idle.1 in
    record {
      seated = sits_still c.raise_root.ensures.table inv.seated;
      stands = subst (λ (l : List ℕ). Stands l c.remove_first.new.numbers.items i.made c.raise_root.new.seat.me) (sym items)
          (raised_stands s _ _ c.args.place n c.raise_root.new.seat.me lt (omega arith) (omega arith) c.index-number.ensures c.remove_first.ensures.items (subst IsOrder moved turned) now);
      room = (let cap = c.remove_first.ensures.capacity in let old = inv.room in omega arith);
      inside = never_inside _ quiet;
      out = idle_out _ _ quiet (ap (λ (m : Knowing). (owner_of m.0).out) now ∙ idle.0) (ap (λ (m : Knowing). m.1) now);
    }

pub returns : goal.returns
returns c =
    let i = c.self.inside in
    let s = c.self.invariant.stands in
    let lt = in_list c.args.place c.self.view_is (count_of_records s) c.requires.place in
    let list = ap (λ (m : Knowing). (owner_of m.0).list) c.raise_root.ensures.after
    ∙ raised_is s c.args.place c.index-number.result.now lt c.index-number.ensures in
    let records = raised_records (owner_of i.seat.me.0).list _ c.args.place list in
    record {
      after = (λ j. record { records = records j; made = i.made; lifted = i.lifted; origin = shared (name_of (c.raise_root.ensures.table j)) })
          ∙ ap (λ (m : KeepMeaning). from m c.args.place) c.self.view_is;
    }
