use Rattle.std.proofs.Common.{rules, ◌∙◌, ap, ◌∷◌, List, sym, Some, ℕ}
use Rattle.atomic_table.specs.Table.{rest}
use Rattle.dym_base.specs.declared.limits.TheConstants.{LOG_SLOTS}
use Rattle.dym_slots.specs.TableStates.{Held, Knowing}
use Rattle.dym_slots.proofs.OwnerMoves.{takes_own}
use Rattle.dym_slots.proofs.Stepping.{own_by}
use Rattle.dym_slots.proofs.owner_steps.take_out.Goals as goal

pub compare_exchange-requires : goal.compare_exchange-requires
compare_exchange-requires c =
    let r = c.requires in
    (search rules, search rules, takes_own LOG_SLOTS _ _ _ _ c.args.number _ _ c.word-old.ensures c.word-new.ensures r.idle r.listed r.slot)

pub exchange-requires : goal.exchange-requires
exchange-requires c =
    let t = own_by c.args.slot c.args.number _ _ _ c.word-old.ensures c.requires.idle.empty c.compare_exchange.ensures.2 in
    let held = ap (λ (m : Knowing). m.1) t.4 in
    (search rules, (Some t.0.bytes, held ∙ sym (ap (λ (l : List (ℕ × Held)). (c.args.slot, Some t.0.bytes) ∷ rest l) held)))
