use Rattle.std.proofs.Common.{◌≡◌, true, false, sym, ◌∙◌}
use Rattle.warp_process.specs.Processes.{face}
use Rattle.warp_worker.specs.Workers.{worker_face}
use Rattle.warp_worker.proofs.Replaced.{get_mapped}
use Rattle.warp_worker.proofs.Loops.{due_iff, not_due}
use Rattle.warp_worker.proofs.worker.Worker.is_due.Goals as goal

pub returns-in-Some : goal.returns-in-Some
returns-in-Some g c =
    let self = c.args.self.now in
    let see = face g.K.StateSaver.state g.K.StateSaver.copies in
    let x = c.index.result.now in
    let get = get_mapped see self.processes.items c.args.place x c.requires.within c.index.ensures in
    due_iff (worker_face g.K.StateSaver.state g.K.StateSaver.copies self) c.args.place c.args.last (see x) c.in-Some.event.now get (sym c.in-Some.ensures)

pub returns-in-None : goal.returns-in-None
returns-in-None g c =
    let self = c.args.self.now in
    let see = face g.K.StateSaver.state g.K.StateSaver.copies in
    let x = c.index.result.now in
    let get = get_mapped see self.processes.items c.args.place x c.requires.within c.index.ensures in
    (λ no. let against : false ≡ true = no in cc, λ h. absurd (not_due (worker_face g.K.StateSaver.state g.K.StateSaver.copies self) c.args.place c.args.last (see x) get (sym c.in-None.ensures) h))
