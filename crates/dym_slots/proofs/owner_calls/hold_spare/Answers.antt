use Rattle.std.proofs.Common.{◌∙◌, sym, subst, List, ℕ}
use Rattle.dym_slots.specs.Orders.{Stands}
use Rattle.dym_slots.proofs.OwnerSays.{two_spare, swapped}
use Rattle.dym_slots.proofs.owner_calls.hold_spare.Goals as goal

pub seize_either-requires-clause-slots : goal.seize_either-requires-clause-slots
seize_either-requires-clause-slots c = two_spare c.requires.stands _ _ _ (c.len-place.ensures ∙ c.args.numbers.now.ok.0) c.index.ensures c.index-2.ensures

pub returns-clause-stands : goal.returns-clause-stands
returns-clause-stands c =
    subst (λ (l : List ℕ). Stands l c.args.numbers.now.items c.args.made c.args.seat.now.me) (sym c.swap.ensures.items) (swapped c.requires.stands _ (c.len-place.ensures ∙ c.args.numbers.now.ok.0)).0
