use Rattle.std.proofs.Common.{rules}
use Rattle.dym_base.specs.declared.limits.TheConstants.{LOG_SLOTS}
use Rattle.dym_slots.proofs.OwnerMoves.{claims}
use Rattle.dym_slots.proofs.Stepping.{claimed_by}
use Rattle.dym_slots.proofs.owner_steps.claim.Goals as goal

pub compare_exchange-requires : goal.compare_exchange-requires
compare_exchange-requires c =
    let r = c.requires in
    (search rules, search rules, claims LOG_SLOTS _ _ _ _ c.args.next _ _ c.word-old.ensures c.word-new.ensures r.idle r.free r.slot r.next r.number)

pub returns : goal.returns
returns c = record { table = c.compare_exchange.ensures.0; after = claimed_by _ _ _ c.requires.idle.empty c.compare_exchange.ensures.2 }
