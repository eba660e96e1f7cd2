use Rattle.std.proofs.Common.{ap, ◌∙◌}
use Rattle.dym_slots.specs.Meanings.{KeepMeaning, record_at}
use Rattle.dym_slots.proofs.OwnerSays.{count_of_records, number_here, in_list}
use Rattle.dym_slots.proofs.owner.Owner.number_at.Goals as goal

pub returns : goal.returns
returns c =
    let s = c.self.invariant.stands in
    let lt = in_list c.args.place c.self.view_is (count_of_records s) c.requires in
    number_here s c.args.place c.index.result.now lt c.index.ensures ∙ ap (λ (m : KeepMeaning). (record_at m.records c.args.place).number) c.self.view_is
