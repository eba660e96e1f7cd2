use Rattle.std.proofs.Common.{refl, ◌≡◌, arith}
use Rattle.dym_heap.specs.Fetches.{fetched, packed_at}
use Rattle.dym_heap.proofs.ShelfCalls as calls
use Rattle.dym_heap.proofs.ShelfLoads as loads
use Rattle.dym_heap.proofs.AreaBindings.{bound_kept}
use Rattle.dym_heap.proofs.shelf.Shelf.fetch_area.Goals as goal

-- of a chunk that isn't there nothing is fetched
pub returns-then-ordinal-self-clause-fetched : goal.returns-then-ordinal-self-clause-fetched
returns-then-ordinal-self-clause-fetched g c = λ f is. calls.no_such_area c.self.view_is c.self.invariant.0 c.args.class.least c.args.class.most (λ i old new. new ≡ fetched (packed_at c.args.packed.now f i) old) c.rank-rank.ensures.value c.if-ordinal-self.true (λ i. refl)

pub returns-then-ordinal-self-clause-valid_shelf : goal.returns-then-ordinal-self-clause-valid_shelf
returns-then-ordinal-self-clause-valid_shelf g c = calls.valid_s c.self.view_is c.self.invariant.0

pub index_mut-sized_area-requires : goal.index_mut-sized_area-requires
index_mut-sized_area-requires g c = let l = calls.place_in c.self.view_is c.self.invariant.0 c.args.class.least c.args.class.most c.rank-rank.ensures.value c.if-ordinal-self.false in omega arith

pub fetch-requires : goal.fetch-requires
fetch-requires g c = record { body = loads.has_q c.self.view_is c.self.invariant.0 c.args.class.least c.args.class.most c.rank-rank.ensures.value c.if-ordinal-self.false c.index_mut-sized_area.ensures.value c.requires }

pub invariant_of-self : goal.invariant_of-self
invariant_of-self g c = bound_kept _ _ _ c.self.invariant (loads.fetched_shelf c.self.view_is c.self.invariant.0 c.args.class.least c.args.class.most c.rank-rank.ensures.value c.if-ordinal-self.false c.index_mut-sized_area.ensures.value c.fetch.ensures.valid c.fetch.ensures.same c.requires c.fetch.ensures.fetched c.requires.0 c.requires.1).shelf

pub returns : goal.returns
returns g c =
    let now = loads.fetched_shelf c.self.view_is c.self.invariant.0 c.args.class.least c.args.class.most c.rank-rank.ensures.value c.if-ordinal-self.false c.index_mut-sized_area.ensures.value c.fetch.ensures.valid c.fetch.ensures.same c.requires c.fetch.ensures.fetched in
    let one = now c.requires.0 c.requires.1 in
    record { fetched = λ f is. (now f is).area; same = one.same; valid_shelf = one.valid }
