use Rattle.std.proofs.Common.{◌≡◌, Some, None, true, false, refl, ap}
use Rattle.warp_process.specs.Processes.{face}
use Rattle.warp_worker.specs.Times.{time_or}
use Rattle.warp_worker.proofs.Times.{last_told}
use Rattle.warp_worker.proofs.told.last_time.Goals as goal

some_is_none : true ≡ false → ⊥
some_is_none h = cc

pub returns-in-Some : goal.returns-in-Some
returns-in-Some g c =
    ap (time_or (Some c.args.committed)) (last_told (face g.K.StateSaver.state g.K.StateSaver.copies c.args.process.now) (Some c.in-Some.event.now) c.in-Some.ensures.some (λ none. absurd (some_is_none (c.in-Some.ensures.none none))))

pub returns-in-None : goal.returns-in-None
returns-in-None g c =
    ap (time_or (Some c.args.committed)) (last_told (face g.K.StateSaver.state g.K.StateSaver.copies c.args.process.now) None c.in-None.ensures.some (λ none. refl))
