use Rattle.std.proofs.Common.{map, ap, ◌∙◌, arith, ◌+◌}
use Rattle.dym_base.specs.Origins.{shared}
use Rattle.dym_slots.specs.SeatViews.{owner_of}
use Rattle.dym_slots.specs.Meanings.{KeepMeaning, up_to, name_of}
use Rattle.dym_slots.specs.Orders.{numbered}
use Rattle.dym_slots.proofs.OwnerSays.{count_of_records, in_list, cut_stands, cut_records, sits_still, idle_out, never_inside}
use Rattle.dym_slots.proofs.owner.Owner.drop_after.Goals as goal

pub invariant_of-self : goal.invariant_of-self
invariant_of-self c =
    let i = c.self.inside in
    let inv = c.self.invariant in
    let s = inv.stands in
    let lt = in_list c.args.place c.self.view_is (count_of_records s) c.requires.place in
    let quiet = ap (λ (m : KeepMeaning). m.lifted) c.self.view_is ∙ c.requires.idle in
    let left = c.drop_down.ensures.after in
    record {
      seated = sits_still c.drop_down.ensures.table inv.seated;
      stands = cut_stands s _ (c.args.place + 1) _ (omega arith) c.truncate.ensures.items left;
      room = (let cap = c.truncate.ensures.capacity in let old = inv.room in omega arith);
      inside = never_inside _ quiet;
      out = idle_out _ _ quiet left.idle.none left.idle.empty;
    }

pub returns : goal.returns
returns c =
    let i = c.self.inside in
    let left = c.drop_down.ensures.after in
    let records = ap (map numbered) left.list_is ∙ cut_records (owner_of i.seat.me.0).list (c.args.place + 1) in
    record {
      after = (λ j. record { records = records j; made = i.made; lifted = i.lifted; origin = shared (name_of (c.drop_down.ensures.table j)) })
          ∙ ap (λ (m : KeepMeaning). up_to m c.args.place) c.self.view_is;
    }
