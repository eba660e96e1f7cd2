use Rattle.std.proofs.Common.{subst, sym}
use Rattle.warp_run.specs.Worlds.{IsNotBefore}
use Rattle.warp_run.proofs.Lanes.{Each-more, Each-all, Each-read}
use Rattle.warp_run.proofs.rounds.least_next.Goals as goal

pub loop-worker-init : goal.loop-worker-init
loop-worker-init g c = record { least = λ time h. tt; one = λ bound h. tt }

pub loop-worker-preserved : goal.loop-worker-preserved
loop-worker-preserved g c = record {
  least = λ time h.
      Each-more (λ w. IsNotBefore time w.next) c.args.workers.now c.loop-worker.worker-index c.worker-item.result c.loop-worker-test.true c.worker-item.is
      (subst (IsNotBefore time) c.next.ensures (c.earlier_of-least.ensures.right time h)) (c.loop-worker.invariant.least time (c.earlier_of-least.ensures.left time h));
  one = λ bound h.
      c.earlier_of-least.ensures.both bound (c.loop-worker.invariant.one bound h) (subst (IsNotBefore bound) (sym c.next.ensures) (Each-read (λ w. IsNotBefore bound w.next) c.args.workers.now c.loop-worker.worker-index c.worker-item.result c.loop-worker-test.true c.worker-item.is h));
}

pub returns-clause-least : goal.returns-clause-least
returns-clause-least g c time h = Each-all (λ w. IsNotBefore time w.next) c.args.workers.now c.loop-worker.worker-index c.loop-worker-test.false (c.loop-worker.invariant.least time h)
