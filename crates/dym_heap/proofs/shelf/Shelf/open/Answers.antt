use Rattle.std.proofs.Common.{arith, ◌≤◌, subst, refl, vec_len, vec_capacity}
use Rattle.dym_heap.specs.Arrangement.{HasTables}
use Rattle.dym_heap.proofs.Opening.{no_areas, no_starts, opened}
use Rattle.dym_heap.proofs.ShelfCalls.{is_valid}
use Rattle.dym_heap.proofs.AreaBindings.{bound_none}
use Rattle.dym_heap.proofs.shelf.Shelf.open.Goals as goal

pub invariant_of-result : goal.invariant_of-result
invariant_of-result g c =
    let q = c.quota-quota.ensures in
    let fits = c.in-Ok-with_capacity.ensures.capacity in (
      no_areas _ _ _ _ _ (no_starts refl) c.in-Ok-with_capacity.ensures.items c.in-Ok.ensures c.requires.nothing_held c.requires.least c.requires.most (omega arith)
          (subst (λ n. HasTables c.args.version n 0 (vec_len c.in-Ok-tables.spare) (vec_capacity c.in-Ok-tables.spare)) q c.in-Ok-tables.ensures),
      bound_none _ _ c.in-Ok-with_capacity.ensures.items,
    )

pub returns-clause-opened : goal.returns-clause-opened
returns-clause-opened g c = opened _ _ _ _ (no_starts refl) c.requires.nothing_held

pub returns-clause-valid_shelf : goal.returns-clause-valid_shelf
returns-clause-valid_shelf g c =
    let q = c.quota-quota.ensures in
    let fits = c.in-Ok-with_capacity.ensures.capacity in
    let enough : g.S.Supply.quota_of c.args.supply ≤ vec_capacity c.in-Ok-with_capacity.sized_areas = omega arith in
    let shelf = no_areas _ _ _ _ _ (no_starts refl) c.in-Ok-with_capacity.ensures.items c.in-Ok.ensures c.requires.nothing_held c.requires.least c.requires.most enough
    (subst (λ n. HasTables c.args.version n 0 (vec_len c.in-Ok-tables.spare) (vec_capacity c.in-Ok-tables.spare)) q c.in-Ok-tables.ensures) in
    is_valid _ shelf
