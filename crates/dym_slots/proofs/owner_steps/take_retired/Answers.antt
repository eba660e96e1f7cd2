use Rattle.std.proofs.Common.{rules}
use Rattle.dym_base.specs.declared.limits.TheConstants.{LOG_SLOTS}
use Rattle.dym_slots.proofs.OwnerMoves.{takes_retired}
use Rattle.dym_slots.proofs.Stepping.{retired_by}
use Rattle.dym_slots.proofs.owner_steps.take_retired.Goals as goal

pub compare_exchange-requires : goal.compare_exchange-requires
compare_exchange-requires c =
    let r = c.requires in
    (search rules, search rules, takes_retired LOG_SLOTS _ _ _ _ c.args.number _ _ c.word-old.ensures c.word-new.ensures r.idle r.seen r.slot)

pub returns : goal.returns
returns c = record { table = c.compare_exchange.ensures.0; outcome = retired_by _ _ _ _ _ c.compare_exchange.ensures.2 c.of_word.ensures.shown }
