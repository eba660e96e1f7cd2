use Rattle.std.proofs.Common.{rules, ◌∙◌, Some}
use Rattle.dym_base.specs.declared.limits.TheConstants.{LOG_SLOTS}
use Rattle.dym_slots.proofs.Stepping.{lowers_by, lowered_by}
use Rattle.dym_slots.proofs.owner_steps.bring_back.Goals as goal

pub store-requires : goal.store-requires
store-requires c =
    let r = c.requires in
    (search rules, search rules, lowers_by LOG_SLOTS _ _ _ _ _ c.args.number _ c.args.rec c.word.ensures r.held c.exchange.ensures.3 r.bytes r.slot)

pub returns : goal.returns
returns c = record {
  table = c.store.ensures.0 ∙ c.exchange.ensures.0;
  after = lowered_by c.args.seat.now.me _ _ c.args.slot (Some c.args.rec) c.exchange.ensures.3 c.store.ensures.2;
}
