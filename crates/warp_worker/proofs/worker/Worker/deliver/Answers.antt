use Rattle.std.proofs.Common.{◌≤◌, sym, subst}
use Rattle.warp_base.specs.Events.{Each}
use Rattle.warp_worker.specs.Workers.{worker_face}
use Rattle.warp_worker.specs.Moves.{IsPendingFrom}
use Rattle.warp_worker.proofs.worker.Worker.deliver.Goals as goal

pub returns-clause-pending : goal.returns-clause-pending
returns-clause-pending g c time soon h =
    subst (λ v. Each (IsPendingFrom time) (worker_face g.K.StateSaver.state g.K.StateSaver.copies v).processes) (sym c.note_next.ensures) (c.in_ok-hand_to.ensures.pending time soon h)

pub date_at-requires : goal.date_at-requires
date_at-requires g c =
    let h = c.in_ok-hand_to.ensures.moved c.requires.worker.0 c.requires.worker.1 in
    record { worker = (g.M.Simulation.behaviour c.args.order.now.model.now, h.new_cells, h.worker) }
