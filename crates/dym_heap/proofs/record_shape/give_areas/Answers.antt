use Rattle.std.proofs.Common.{◌≤◌, ◌-◌, get_or, ap, refl, arith}
use Rattle.dym_heap.specs.Shelves.{count_of}
use Rattle.dym_heap.proofs.Fitting as fit
use Rattle.dym_heap.proofs.record_shape.give_areas.Goals as goal

pub loop-exp-init : goal.loop-exp-init
loop-exp-init g c = record {
  low = omega arith;
  done = λ d low less. absurd (omega arith);
  agree = λ k within. refl;
  keeps = record { version = refl; quota = refl; origin = refl };
  valid_shelf = c.requires.valid_shelf;
}

pub give_last-requires : goal.give_last-requires
give_last-requires g c = let n = c.areas.ensures in let t = c.loop-class-test.true in omega arith

pub loop-class-smaller : goal.loop-class-smaller
loop-class-smaller g c = let now = fit.count_now c.loop-class.shelf c.give_last.new.self c.loop-exp.exp (count_of c.loop-class.shelf c.loop-exp.exp - 1) c.loop-exp.invariant.low (let l = c.loop-exp-test.true in omega arith) c.give_last.ensures.dropped c.loop-class.invariant.valid_shelf in let n = c.areas.ensures in let t = c.loop-class-test.true in omega arith

pub loop-class-preserved : goal.loop-class-preserved
loop-class-preserved g c = record {
  done = fit.upto_else c.loop-class.shelf c.give_last.new.self c.loop-exp.exp (count_of c.loop-class.shelf c.loop-exp.exp - 1) c.args.counts.now (λ n most. n ≤ most) c.loop-exp.invariant.low (let l = c.loop-exp-test.true in omega arith) c.give_last.ensures.dropped c.loop-class.invariant.done;
  agree = fit.still_agree c.args.shelf.now c.loop-class.shelf c.give_last.new.self c.loop-exp.exp c.args.counts.now c.loop-class.invariant.valid_shelf c.loop-exp.invariant.low (let l = c.loop-exp-test.true in omega arith) c.give_last.ensures.dropped
      (let e = (ap (λ k. get_or c.args.counts.now k 0) c.rank.ensures.value) in let n = c.areas.ensures in let t = c.loop-class-test.true in omega arith) c.give_last.ensures.chunks c.loop-class.invariant.agree;
  keeps = fit.keeps_trans c.loop-class.invariant.keeps (fit.keeps_now c.loop-class.shelf c.give_last.new.self c.loop-exp.exp (count_of c.loop-class.shelf c.loop-exp.exp - 1) c.loop-exp.invariant.low (let l = c.loop-exp-test.true in omega arith) c.give_last.ensures.dropped);
  valid_shelf = c.give_last.ensures.valid_shelf;
}

pub loop-exp-preserved : goal.loop-exp-preserved
loop-exp-preserved g c = record {
  low = (let l = c.loop-exp.invariant.low in omega arith);
  done = fit.upto_next c.loop-class.shelf c.args.counts.now c.loop-exp.exp (λ n most. n ≤ most) c.loop-class.invariant.done
      (let e = (ap (λ k. get_or c.args.counts.now k 0) c.rank.ensures.value) in let n = c.areas.ensures in let t = c.loop-class-test.false in omega arith);
  agree = c.loop-class.invariant.agree;
  keeps = c.loop-class.invariant.keeps;
  valid_shelf = c.loop-class.invariant.valid_shelf;
}

pub returns-clause-most : goal.returns-clause-most
returns-clause-most g c e class = c.loop-exp.invariant.done e class.0 (let high = class.1 in let t = c.loop-exp-test.false in omega arith)
