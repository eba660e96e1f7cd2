use Rattle.std.proofs.Common.{arith}
use Rattle.dym_heap.proofs.ShelfGrows.{cuts_none, cuts_more}
use Rattle.dym_heap.proofs.shelf.Shelf.trim.Goals as goal

pub loop-class-init : goal.loop-class-init
loop-class-init g c = record { cuts = cuts_none _ _; valid_shelf = c.requires }

pub loop-class-preserved : goal.loop-class-preserved
loop-class-preserved g c = record {
  cuts = cuts_more c.args.self.now c.args.class.exp c.loop-class.invariant.cuts c.drop_area.ensures.dropped (let n = c.loop-class.invariant.valid_shelf.classes in let high = c.args.class.most in omega arith);
  valid_shelf = c.drop_area.ensures.valid_shelf;
}
