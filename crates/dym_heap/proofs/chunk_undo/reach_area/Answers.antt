use Rattle.std.proofs.Common.{ap, arith}
use Rattle.dym_heap.specs.Shelves.{ShelfMeaning}
use Rattle.dym_heap.proofs.HeapUndo as undo
use Rattle.dym_heap.proofs.chunk_undo.reach_area.Goals as goal

pub loop-class-init : goal.loop-class-init
loop-class-init g c = undo.reaching_none c.args.shelf.now c.args.class.exp c.args.ordinal c.requires.valid_shelf

pub add_area-requires : goal.add_area-requires
add_area-requires g c = undo.reaching_room c.args.class.least c.args.class.most c.loop-class.invariant (let n = c.areas.ensures in let t = c.loop-class-test.true in omega arith) c.requires.within

pub loop-class-smaller : goal.loop-class-smaller
loop-class-smaller g c =
    let more = undo.reaching_more c.args.class.least c.args.class.most c.loop-class.invariant (let n = c.areas.ensures in let t = c.loop-class-test.true in omega arith) c.add_area.ensures.added c.add_area.ensures.valid_shelf in
    let a = more.held in
    let b = c.loop-class.invariant.held in
    let c1 = undo.held_more _ _ c.loop-class.invariant.valid_shelf c.add_area.ensures.valid_shelf (let high = c.args.class.most in omega arith) c.add_area.ensures.added in
    let n = c.areas.ensures in
    let t = c.loop-class-test.true in
    omega arith

pub loop-class-preserved : goal.loop-class-preserved
loop-class-preserved g c = undo.reaching_more c.args.class.least c.args.class.most c.loop-class.invariant (let n = c.areas.ensures in let t = c.loop-class-test.true in omega arith) c.add_area.ensures.added c.add_area.ensures.valid_shelf

pub returns : goal.returns
returns g c =
    let is = c.loop-class.invariant.is in
    record {
      reached = undo.reaching_done c.loop-class.invariant (let n = c.areas.ensures in let t = c.loop-class-test.false in omega arith);
      keeps = record { version = ap (λ (s : ShelfMeaning). s.version) is; quota = ap (λ (s : ShelfMeaning). s.quota) is; origin = ap (λ (s : ShelfMeaning). s.origin) is };
      valid_shelf = c.loop-class.invariant.valid_shelf;
    }
