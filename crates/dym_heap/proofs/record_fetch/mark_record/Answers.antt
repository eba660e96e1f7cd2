use Rattle.std.proofs.Common.{arith, refl, ap, ◌∙◌}
use Rattle.dym_heap.specs.Shelves.{ShelfMeaning}
use Rattle.dym_heap.proofs.AreaSteps as steps
use Rattle.dym_heap.proofs.Fetches as fetches
use Rattle.dym_heap.proofs.record_fetch.mark_record.Goals as goal

pub mark_area_of-requires-clause-area : goal.mark_area_of-requires-clause-area
mark_area_of-requires-clause-area g c = λ log is e. let n = c.area_count-k-end.ensures.count log is e in let t = c.loop-k-test.true in omega arith

pub loop-k-init : goal.loop-k-init
loop-k-init g c = record { same = refl; tidy = c.requires.tidy; upto = λ log is e q. steps.upto_none (fetches.Marked log) log.copy c.args.shelf.now.state q }

pub loop-k-preserved : goal.loop-k-preserved
loop-k-preserved g c =
    let has = c.area_count-k-end.ensures.recorded in
    record {
      same = c.mark_area_of.ensures.same ∙ ap (λ (s : ShelfMeaning). record s { state = c.mark_area_of.new.shelf.state }) c.loop-k.invariant.same;
      tidy = fetches.tidy_marked has.0 c.loop-k.k c.loop-k.invariant.tidy c.mark_area_of.ensures.valid_shelf c.mark_area_of.ensures.same (c.mark_area_of.ensures.marked has.0 has.1 has.2);
      upto = λ log is e q. steps.upto_more (fetches.Marked log) (fetches.marked_twice log) log.copy c.loop-k.k c.args.shelf.now.state (c.mark_area_of.ensures.marked log is e) q (c.loop-k.invariant.upto log is e q);
    }

pub returns-clause-marked : goal.returns-clause-marked
returns-clause-marked g c = λ log is e.
    steps.upto_all (fetches.Marked log) log.copy _ _ c.loop-k.k (let n = c.area_count-k-end.ensures.count log is e in let t = c.loop-k-test.false in let m = c.loop-k.auto.k-end in omega arith) (fetches.classes log is) (fetches.marked_idle log is) (c.loop-k.invariant.upto log is e)
