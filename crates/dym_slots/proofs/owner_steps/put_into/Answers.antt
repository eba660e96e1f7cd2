use Rattle.std.proofs.Common.{rules, ◌∙◌}
use Rattle.dym_base.specs.declared.limits.TheConstants.{LOG_SLOTS}
use Rattle.dym_slots.proofs.Stepping.{puts_by, put_by}
use Rattle.dym_slots.proofs.owner_steps.put_into.Goals as goal

pub store-requires : goal.store-requires
store-requires c =
    let r = c.requires in
    (search rules, search rules, puts_by LOG_SLOTS _ _ _ _ _ c.args.number _ c.args.rec c.word.ensures r.held c.exchange.ensures.3 r.unlisted r.slot r.next r.number r.room)

pub returns : goal.returns
returns c = record {
  table = c.store.ensures.0 ∙ c.exchange.ensures.0;
  after = put_by _ _ _ c.args.slot c.args.rec c.requires.held c.exchange.ensures.3 c.store.ensures.2;
}
