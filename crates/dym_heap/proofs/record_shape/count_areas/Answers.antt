use Rattle.std.proofs.Common.{ℕ, ◌<◌, arith, ap, max, ◌≡◌, nat_cmp, rules}
use Rattle.dym_base.specs.Heaps.{held}
use Rattle.std.specs.Ordering.{ord_max}
use Rattle.dym_pack.specs.Areas.{AreaName}
use Rattle.dym_heap.proofs.AreaLists.{named}
use Rattle.dym_heap.proofs.Counts as counts
use Rattle.dym_heap.proofs.record_shape.count_areas.Goals as goal

-- the greater of two, as the code takes it
greater : (x a b : ℕ) → x ≡ ord_max nat_cmp a b → x ≡ max a b
greater x a b is = search rules

pub overflow_add-area_ordinal : goal.overflow_add-area_ordinal
overflow_add-area_ordinal c =
    let has = c.area_count-k-end.ensures.recorded in
    let n = named has.0.copy c.loop-k.k (let n = c.area_count-k-end.ensures.count has.0 has.1 has.2 in let t = c.loop-k-test.true in omega arith) in
    let o = c.area_ordinal.ensures has.0 has.1 has.2 in
    let is = ap (λ (a : AreaName). a.ordinal) n.is in
    let low = n.below in
    let few = has.1.few in
    let l : c.loop-k.k < held has.0.copy = (let n = c.area_count-k-end.ensures.count has.0 has.1 has.2 in let t = c.loop-k-test.true in omega arith) in
    omega arith

pub loop-k-preserved : goal.loop-k-preserved
loop-k-preserved c = record {
  counted = counts.counted_more c.area_class.result.exp c.area_ordinal.result c.loop-k.invariant.counted c.area_count-k-end.ensures.recorded
      (λ log is e. (let n = c.area_count-k-end.ensures.count log is e in let t = c.loop-k-test.true in omega arith)) c.area_class.ensures c.area_ordinal.ensures c.rank-rank.ensures.value (greater _ _ _ c.max.ensures);
}

pub returns-clause-are : goal.returns-clause-are
returns-clause-are c = counts.counted_all c.loop-k.invariant.counted (λ log is e. let n = c.area_count-k-end.ensures.count log is e in let t = c.loop-k-test.false in let m = c.loop-k.auto.k-end in omega arith)

pub returns-clause-total : goal.returns-clause-total
returns-clause-total c = counts.counted_total c.loop-k.invariant.counted c.area_count-k-end.ensures.recorded (λ log is e. let n = c.area_count-k-end.ensures.count log is e in let t = c.loop-k-test.false in let m = c.loop-k.auto.k-end in omega arith)
