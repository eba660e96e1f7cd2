use Rattle.dym_io.specs.Laws.{each_cut, writes_stopped}
use Rattle.dym_io.proofs.sink.push_parts.Goals as goal

pub returns-in_err-push_all : goal.returns-in_err-push_all
returns-in_err-push_all g c =
    let cut = each_cut (λ part. part.now) c.args.parts.now _ _ _ _ _ c.loop-part-test.true c.loop-part.invariant c.in_err-push_all.ensures in
    writes_stopped _ _ _ _ c.from_residual.ensures.0 cut
