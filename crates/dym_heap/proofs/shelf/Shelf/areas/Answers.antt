use Rattle.dym_heap.proofs.ShelfCalls as calls
use Rattle.dym_heap.proofs.ShelfGrows as grows
use Rattle.dym_heap.proofs.shelf.Shelf.areas.Goals as goal

pub overflow_sub-result : goal.overflow_sub-result
overflow_sub-result g c = grows.rising_k c.self.view_is c.self.invariant.0 c.args.class.least c.args.class.most c.rank-rank.result c.rank-rank.ensures.value

pub returns : goal.returns
returns g c = calls.count_k c.self.view_is c.self.invariant.0 c.args.class.least c.args.class.most c.rank-rank.ensures.value
