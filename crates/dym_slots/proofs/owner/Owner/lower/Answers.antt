use Rattle.std.proofs.Common.{ap, ◌∙◌, sym}
use Rattle.dym_slots.specs.Meanings.{KeepMeaning, record_at}
use Rattle.dym_slots.proofs.OwnerSays.{is_bytes, number_fits}
use Rattle.dym_slots.proofs.owner.Owner.lower.Goals as goal

pub bring_back-requires-clause-bytes : goal.bring_back-requires-clause-bytes
bring_back-requires-clause-bytes c =
    let s = c.self.invariant.stands in
    let lt = c.self.invariant.inside c.args.place (ap (λ (m : KeepMeaning). m.lifted) c.self.view_is ∙ c.requires.lifted) in
    let own = c.requires.bytes ∙ ap (λ (m : KeepMeaning). (record_at m.records c.args.place).bytes) (sym c.self.view_is) in
    is_bytes s c.args.place _ _ c.args.rec lt c.index.ensures c.index-number.ensures own

pub bring_back-requires-clause-number : goal.bring_back-requires-clause-number
bring_back-requires-clause-number c =
    let s = c.self.invariant.stands in
    let lt = c.self.invariant.inside c.args.place (ap (λ (m : KeepMeaning). m.lifted) c.self.view_is ∙ c.requires.lifted) in
    number_fits s c.args.place _ lt c.index-number.ensures
