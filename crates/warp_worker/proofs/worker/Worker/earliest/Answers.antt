use Rattle.warp_worker.proofs.worker.Worker.earliest.Goals as goal

pub returns-then-is_due : goal.returns-then-is_due
returns-then-is_due g c = c.is_due.ensures.0 c.if-is_due.true
