use Rattle.std.proofs.Common.{rules, arith}
use Rattle.dym_heap.proofs.ShelfGrows as grows
use Rattle.dym_heap.proofs.shelf.Shelf.ends_free.Goals as goal

pub returns-then-end-self : goal.returns-then-end-self
returns-then-end-self g c = grows.none_trimmed c.self.view_is c.self.invariant.0 c.args.class.least c.args.class.most c.rank-rank.result c.rank-rank.ensures.value (search rules)

pub index-requires : goal.index-requires
index-requires g c = let top = grows.end_in c.self.view_is c.self.invariant.0 c.args.class.least c.args.class.most c.rank-rank.ensures.value in let up = grows.rising_k c.self.view_is c.self.invariant.0 c.args.class.least c.args.class.most c.rank-rank.result c.rank-rank.ensures.value in omega arith

pub returns : goal.returns
returns g c = grows.ends_k c.self.view_is c.self.invariant.0 c.args.class.least c.args.class.most c.rank-rank.result _ c.is_empty.result c.rank-rank.ensures.value (search rules) c.index.ensures c.is_empty.ensures
