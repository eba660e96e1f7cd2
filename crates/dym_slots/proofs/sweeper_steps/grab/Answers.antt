use Rattle.std.proofs.Common.{rules}
use Rattle.dym_base.specs.declared.limits.TheConstants.{LOG_SLOTS}
use Rattle.dym_slots.proofs.SweeperMoves.{grabs}
use Rattle.dym_slots.proofs.sweeper_steps.grab.Goals as goal

pub compare_exchange-requires : goal.compare_exchange-requires
compare_exchange-requires c =
    let r = c.requires in
    (search rules, search rules, grabs LOG_SLOTS _ _ _ _ c.args.number _ _ c.word-old.ensures c.word-new.ensures r.idle r.turn r.slot r.found r.retired)
