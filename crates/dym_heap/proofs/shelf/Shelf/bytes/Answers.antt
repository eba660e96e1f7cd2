use Rattle.std.proofs.Common.{sym, subst, ◌≡◌, None, Some, MatchOption}
use Rattle.dym_heap.proofs.ShelfCalls as calls
use Rattle.dym_heap.proofs.shelf.Shelf.bytes.Goals as goal

pub returns-in_default : goal.returns-in_default
returns-in_default g c = calls.past_e c.self.view_is c.self.invariant.0 c.args.class.least c.args.class.most c.args.index c.ranges.index.fits c.in_default.ensures

pub chunk_bytes-requires : goal.chunk_bytes-requires
chunk_bytes-requires g c =
    calls.inside_e c.self.view_is c.self.invariant.0 c.args.class.least c.args.class.most c.args.index c.ranges.index.fits c.in-Some.ensures c.index.ensures

pub returns : goal.returns
returns g c =
    subst (λ o. MatchOption c.chunk_bytes.result (o ≡ None) (λ bytes. o ≡ Some bytes.now))
    (sym (calls.bytes_e c.self.view_is c.self.invariant.0 c.args.class.least c.args.class.most c.args.index c.ranges.index.fits c.in-Some.ensures c.index.ensures)) c.chunk_bytes.ensures
