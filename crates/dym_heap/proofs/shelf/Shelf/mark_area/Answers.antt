use Rattle.std.proofs.Common.{refl, ◌≡◌, arith}
use Rattle.dym_bits.specs.Bits.{bit_in}
use Rattle.dym_heap.specs.Fetches.{marked}
use Rattle.dym_heap.proofs.ShelfCalls as calls
use Rattle.dym_heap.proofs.ShelfLoads as loads
use Rattle.dym_heap.proofs.AreaBindings.{bound_kept}
use Rattle.dym_heap.proofs.shelf.Shelf.mark_area.Goals as goal

pub returns-then-ordinal-self-clause-marked : goal.returns-then-ordinal-self-clause-marked
returns-then-ordinal-self-clause-marked g c = calls.no_such_area c.self.view_is c.self.invariant.0 c.args.class.least c.args.class.most (λ i old new. new ≡ marked (bit_in c.args.packed.now i) old) c.rank-rank.ensures.value c.if-ordinal-self.true (λ i. refl)

pub returns-then-ordinal-self-clause-valid_shelf : goal.returns-then-ordinal-self-clause-valid_shelf
returns-then-ordinal-self-clause-valid_shelf g c = calls.valid_s c.self.view_is c.self.invariant.0

pub index_mut-sized_area-requires : goal.index_mut-sized_area-requires
index_mut-sized_area-requires g c = let l = calls.place_in c.self.view_is c.self.invariant.0 c.args.class.least c.args.class.most c.rank-rank.ensures.value c.if-ordinal-self.false in omega arith

pub invariant_of-self : goal.invariant_of-self
invariant_of-self g c = bound_kept _ _ _ c.self.invariant (loads.marked_shelf c.self.view_is c.self.invariant.0 c.args.class.least c.args.class.most c.rank-rank.ensures.value c.if-ordinal-self.false c.index_mut-sized_area.ensures.value c.mark.ensures.valid c.mark.ensures.same c.args.packed.now c.mark.ensures.marked).shelf

pub returns : goal.returns
returns g c =
    let now = loads.marked_shelf c.self.view_is c.self.invariant.0 c.args.class.least c.args.class.most c.rank-rank.ensures.value c.if-ordinal-self.false c.index_mut-sized_area.ensures.value c.mark.ensures.valid c.mark.ensures.same c.args.packed.now c.mark.ensures.marked in
    record { marked = now.area; same = now.same; valid_shelf = now.valid }
