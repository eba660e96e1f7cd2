use Rattle.std.proofs.Common.{length, refl, sym, ◌∙◌}
use Rattle.std.proofs.lemmas.Option.{slice_get_read}
use Rattle.warp_run.proofs.rounds.first_failed.Goals as goal

pub returns-in-Some : goal.returns-in-Some
returns-in-Some g c =
    let ws = c.args.workers.now in
    let k = c.loop-worker.worker-index in
    (k, c.worker-item.result, slice_get_read ws (length ws) k c.worker-item.result refl c.loop-worker-test.true c.worker-item.is, sym c.failed.ensures ∙ c.in-Some.is)
