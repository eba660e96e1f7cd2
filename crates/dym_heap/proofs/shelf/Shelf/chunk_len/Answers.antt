use Rattle.std.proofs.Common.{sym, ap, ◌∙◌, length}
use Rattle.std.specs.Prelude.{option_map}
use Rattle.dym_heap.proofs.ShelfCalls as calls
use Rattle.dym_heap.proofs.shelf.Shelf.chunk_len.Goals as goal

pub returns-in_default : goal.returns-in_default
returns-in_default g c = sym (ap (option_map length) (calls.past_e c.self.view_is c.self.invariant.0 c.args.class.least c.args.class.most c.args.index c.ranges.index.fits c.in_default.ensures))

pub chunk_len-requires : goal.chunk_len-requires
chunk_len-requires g c =
    calls.inside_e c.self.view_is c.self.invariant.0 c.args.class.least c.args.class.most c.args.index c.ranges.index.fits c.in-Some.ensures c.index.ensures

pub returns : goal.returns
returns g c =
    c.chunk_len.ensures
    ∙ sym (ap (option_map length) (calls.bytes_e c.self.view_is c.self.invariant.0 c.args.class.least c.args.class.most c.args.index c.ranges.index.fits c.in-Some.ensures c.index.ensures))
