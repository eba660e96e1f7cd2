use Rattle.std.proofs.Common.{rules, ◌∙◌}
use Rattle.dym_base.specs.declared.limits.TheConstants.{LOG_SLOTS}
use Rattle.dym_slots.proofs.SweeperSays.{gives_by, gave_by}
use Rattle.dym_slots.proofs.sweeper_steps.give_back.Goals as goal

pub store-requires : goal.store-requires
store-requires c =
    let r = c.requires in
    (search rules, search rules, gives_by LOG_SLOTS _ _ c.args.seat.now.me _ _ _ c.word.ensures r.sweeper r.out r.held c.exchange.ensures.3 r.turn r.slot)

pub returns : goal.returns
returns c = record {
  table = c.store.ensures.0 ∙ c.exchange.ensures.0;
  after = gave_by c.args.seat.now.me _ _ c.args.slot c.exchange.ensures.3 c.store.ensures.2;
}
