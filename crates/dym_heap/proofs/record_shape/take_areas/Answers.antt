use Rattle.std.proofs.Common.{◌≡◌, ◌+◌, get_or, ap, refl, ◌∙◌, arith}
use Rattle.dym_heap.specs.Shelves.{ShelfMeaning, count_of}
use Rattle.dym_heap.proofs.Counts.{room_left}
use Rattle.dym_heap.proofs.Fitting as fit
use Rattle.dym_heap.proofs.record_shape.take_areas.Goals as goal

pub loop-exp-init : goal.loop-exp-init
loop-exp-init g c = record {
  low = omega arith;
  done = λ d low less. absurd (omega arith);
  most = c.requires.most;
  state = refl;
  keeps = record { version = refl; quota = refl; origin = refl };
  valid_shelf = c.requires.valid_shelf;
}

pub add_area-requires : goal.add_area-requires
add_area-requires g c =
    let q = c.loop-class.invariant.keeps.quota in
    let w = c.requires.within in
    room_left c.loop-class.shelf c.args.counts.now c.loop-exp.exp c.loop-class.invariant.valid_shelf c.told-counts c.loop-class.invariant.most c.loop-exp.invariant.low (let l = c.loop-exp-test.true in omega arith) (let e = (ap (λ k. get_or c.args.counts.now k 0) c.rank.ensures.value) in let n = c.areas.ensures in let t = c.loop-class-test.true in omega arith) (omega arith)

pub loop-class-smaller : goal.loop-class-smaller
loop-class-smaller g c = let now = fit.count_now c.loop-class.shelf c.add_area.new.self c.loop-exp.exp (count_of c.loop-class.shelf c.loop-exp.exp + 1) c.loop-exp.invariant.low (let l = c.loop-exp-test.true in omega arith) (fit.with_count_is c.loop-class.shelf c.add_area.new.self c.loop-exp.exp (count_of c.loop-class.shelf c.loop-exp.exp + 1) c.add_area.ensures.added) c.loop-class.invariant.valid_shelf in let e = (ap (λ k. get_or c.args.counts.now k 0) c.rank.ensures.value) in let n = c.areas.ensures in let t = c.loop-class-test.true in omega arith

pub loop-class-preserved : goal.loop-class-preserved
loop-class-preserved g c = record {
  done = fit.upto_else c.loop-class.shelf c.add_area.new.self c.loop-exp.exp (count_of c.loop-class.shelf c.loop-exp.exp + 1) c.args.counts.now (λ n wanted. n ≡ wanted) c.loop-exp.invariant.low (let l = c.loop-exp-test.true in omega arith) (fit.with_count_is c.loop-class.shelf c.add_area.new.self c.loop-exp.exp (count_of c.loop-class.shelf c.loop-exp.exp + 1) c.add_area.ensures.added) c.loop-class.invariant.done;
  most = fit.still_most c.loop-class.shelf c.add_area.new.self c.loop-exp.exp c.args.counts.now c.loop-class.invariant.valid_shelf c.loop-exp.invariant.low (let l = c.loop-exp-test.true in omega arith) (fit.with_count_is c.loop-class.shelf c.add_area.new.self c.loop-exp.exp (count_of c.loop-class.shelf c.loop-exp.exp + 1) c.add_area.ensures.added) (let e = (ap (λ k. get_or c.args.counts.now k 0) c.rank.ensures.value) in let n = c.areas.ensures in let t = c.loop-class-test.true in omega arith) c.loop-class.invariant.most;
  state = ap (λ (s : ShelfMeaning). s.state) c.add_area.ensures.added ∙ c.loop-class.invariant.state;
  keeps = fit.keeps_trans c.loop-class.invariant.keeps (fit.keeps_now c.loop-class.shelf c.add_area.new.self c.loop-exp.exp (count_of c.loop-class.shelf c.loop-exp.exp + 1) c.loop-exp.invariant.low (let l = c.loop-exp-test.true in omega arith) (fit.with_count_is c.loop-class.shelf c.add_area.new.self c.loop-exp.exp (count_of c.loop-class.shelf c.loop-exp.exp + 1) c.add_area.ensures.added));
  valid_shelf = c.add_area.ensures.valid_shelf;
}

pub loop-exp-preserved : goal.loop-exp-preserved
loop-exp-preserved g c = record {
  low = (let l = c.loop-exp.invariant.low in omega arith);
  done = fit.upto_next c.loop-class.shelf c.args.counts.now c.loop-exp.exp (λ n wanted. n ≡ wanted) c.loop-class.invariant.done
      (let e = (ap (λ k. get_or c.args.counts.now k 0) c.rank.ensures.value) in let n = c.areas.ensures in let t = c.loop-class-test.false in let m = c.loop-class.invariant.most c.loop-exp.exp (c.loop-exp.invariant.low, (let l = c.loop-exp-test.true in omega arith)) in omega arith);
  most = c.loop-class.invariant.most;
  state = c.loop-class.invariant.state;
  keeps = c.loop-class.invariant.keeps;
  valid_shelf = c.loop-class.invariant.valid_shelf;
}

pub returns-clause-are : goal.returns-clause-are
returns-clause-are g c e class = c.loop-exp.invariant.done e class.0 (let high = class.1 in let t = c.loop-exp-test.false in omega arith)
