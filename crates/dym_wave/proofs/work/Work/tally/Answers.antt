use Rattle.std.proofs.Common.{subst}
use Rattle.dym_wave.specs.Results.{IsTallyOf}
use Rattle.dym_wave.proofs.Publishing.{line_of}
use Rattle.dym_wave.proofs.WorkStates.{work_over}
use Rattle.dym_wave.proofs.work.Work.tally.Goals as goal

pub returns-in-Running : goal.returns-in-Running
returns-in-Running g c =
    let w = c.self.inside in
    subst (IsTallyOf c.tally_of.result)
    (work_over w.spec w.state w.short w.publisher _ _ c.args.self.now c.self.view_is c.in-Running.is c.requires c.self.invariant.0 c.self.invariant.1)
    (c.tally_of.ensures w.spec.name (line_of w.publisher))
