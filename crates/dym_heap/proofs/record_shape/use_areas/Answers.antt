use Rattle.std.proofs.Common.{arith, refl, ap, subst, ◌∙◌, ℕ}
use Rattle.dym_heap.specs.Shelves.{ShelfMeaning, count_of}
use Rattle.dym_heap.proofs.AreaSteps as steps
use Rattle.dym_heap.proofs.AreaSteps.{UpTo}
use Rattle.dym_heap.proofs.Reshapes as reshapes
use Rattle.dym_heap.proofs.record_shape.use_areas.Goals as goal

pub use_area-requires-clause-area : goal.use_area-requires-clause-area
use_area-requires-clause-area g c = λ log is e. let n = c.area_count-k-end.ensures.count log is e in let t = c.loop-k-test.true in omega arith

pub loop-k-init : goal.loop-k-init
loop-k-init g c = record {
  same = refl;
  valid_shelf = c.requires.valid_shelf;
  are = c.requires.are;
  upto = λ log is e q. steps.upto_none (reshapes.Reshaped log.copy) log.copy c.args.shelf.now.state q;
}

pub loop-k-preserved : goal.loop-k-preserved
loop-k-preserved g c = record {
  same = c.use_area.ensures.same ∙ ap (λ (s : ShelfMeaning). record s { state = c.use_area.new.shelf.state }) c.loop-k.invariant.same;
  valid_shelf = c.use_area.ensures.valid_shelf;
  are = λ log is e d class. ap (λ (s : ShelfMeaning). count_of s d) c.use_area.ensures.same ∙ c.loop-k.invariant.are log is e d class;
  upto = λ log is e q. steps.upto_more (reshapes.Reshaped log.copy) (reshapes.reshaped_twice log.copy) log.copy c.loop-k.k c.args.shelf.now.state (c.use_area.ensures.shaped log is e) q (c.loop-k.invariant.upto log is e q);
}

pub returns-clause-shaped : goal.returns-clause-shaped
returns-clause-shaped g c = λ log is e.
    reshapes.shaped log.version log.copy c.args.shelf.now.state is.sized c.loop-k.invariant.valid_shelf (c.loop-k.invariant.are log is e)
    (λ q. subst (λ (n : ℕ). UpTo (reshapes.Reshaped log.copy) log.copy c.args.shelf.now.state c.loop-k.shelf.state n q) (let n = c.area_count-k-end.ensures.count log is e in let t = c.loop-k-test.false in let m = c.loop-k.auto.k-end in omega arith) (c.loop-k.invariant.upto log is e q))

pub returns-clause-tidy : goal.returns-clause-tidy
returns-clause-tidy g c =
    let has = c.area_count-k-end.ensures.recorded in
    let log = has.0 in
    let is = has.1 in
    let e = has.2 in
    reshapes.tidy log.version log.copy c.args.shelf.now.state is.sized c.loop-k.invariant.valid_shelf (c.loop-k.invariant.are log is e)
    (λ q. subst (λ (n : ℕ). UpTo (reshapes.Reshaped log.copy) log.copy c.args.shelf.now.state c.loop-k.shelf.state n q) (let n = c.area_count-k-end.ensures.count log is e in let t = c.loop-k-test.false in let m = c.loop-k.auto.k-end in omega arith) (c.loop-k.invariant.upto log is e q))
