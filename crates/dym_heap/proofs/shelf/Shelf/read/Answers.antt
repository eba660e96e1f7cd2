use Rattle.std.proofs.Common.{◌≡◌, ◌+◌, sym, subst, length, take, drop, MatchOption}
use Rattle.dym_heap.specs.Shelves.{FitsIn}
use Rattle.dym_heap.proofs.ShelfCalls as calls
use Rattle.dym_heap.proofs.shelf.Shelf.read.Goals as goal

pub unreachable-requires : goal.unreachable-requires
unreachable-requires g c = calls.not_past c.self.view_is c.self.invariant.0 c.args.class.least c.args.class.most c.args.index c.ranges.index.fits (calls.some_fits _ _ c.requires) c.in_default.ensures

pub read-requires : goal.read-requires
read-requires g c =
    subst (λ o. FitsIn o (c.args.at + length c.args.out.now)) (calls.bytes_e c.self.view_is c.self.invariant.0 c.args.class.least c.args.class.most c.args.index c.ranges.index.fits c.in-Some.ensures c.index.ensures) c.requires

pub returns : goal.returns
returns g c =
    subst (λ o. MatchOption o ⊥ (λ bytes. c.read.new.out ≡ take (length c.args.out.now) (drop c.args.at bytes)))
    (sym (calls.bytes_e c.self.view_is c.self.invariant.0 c.args.class.least c.args.class.most c.args.index c.ranges.index.fits c.in-Some.ensures c.index.ensures)) c.read.ensures
