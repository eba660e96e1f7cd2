use Rattle.std.proofs.Common.{arith}
use Rattle.std.proofs.lemmas.Grind.{common_steps}
use Rattle.dym_io.specs.Laws.{leaves_drop}
use Rattle.dym_io.proofs.sink.push_all.Goals as goal

pub loop-rest-preserved : goal.loop-rest-preserved
loop-rest-preserved g c =
    let step = leaves_drop _ _ _ _ _ _ c.loop-rest.invariant c.in_ok-taken.ensures.written in
    grind (arith, common_steps)
