use Rattle.std.proofs.Common.{◌≡◌, None, length, refl, sym, ◌∙◌}
use Rattle.std.proofs.lemmas.Option.{slice_get_read}
use Rattle.warp_run.proofs.Lanes.{Each-more, Each-all}
use Rattle.warp_run.proofs.rounds.first_error.Goals as goal

pub loop-worker-preserved : goal.loop-worker-preserved
loop-worker-preserved g c =
    Each-more (λ w. w.error ≡ None) c.args.workers.now c.loop-worker.worker-index c.worker-item.result c.loop-worker-test.true c.worker-item.is (sym c.error.ensures ∙ c.in_default.is) c.loop-worker.invariant

pub returns-clause-none : goal.returns-clause-none
returns-clause-none g c = Each-all (λ w. w.error ≡ None) c.args.workers.now c.loop-worker.worker-index c.loop-worker-test.false c.loop-worker.invariant

pub returns-in-Some-clause-some : goal.returns-in-Some-clause-some
returns-in-Some-clause-some g c =
    let ws = c.args.workers.now in
    let k = c.loop-worker.worker-index in
    (k, c.worker-item.result, slice_get_read ws (length ws) k c.worker-item.result refl c.loop-worker-test.true c.worker-item.is, sym c.error.ensures ∙ c.in-Some.is)
