use Rattle.std.proofs.Common.{rules}
use Rattle.dym_base.specs.declared.limits.TheConstants.{LOG_SLOTS}
use Rattle.dym_slots.proofs.Stepping.{frees_by, freed_by}
use Rattle.dym_slots.proofs.owner_steps.free_newest.Goals as goal

pub store-requires : goal.store-requires
store-requires c =
    let r = c.requires in
    (search rules, search rules, frees_by LOG_SLOTS _ _ _ _ _ c.word.ensures r.held r.older r.newest r.slot)

pub returns : goal.returns
returns c = record { table = c.store.ensures.0; after = freed_by _ _ c.args.slot c.store.ensures.2 }
