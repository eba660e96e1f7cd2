use Rattle.warp_object.proofs.object_process.ObjectProcess.set_period.Goals as goal

pub returns-clause-recorded : goal.returns-clause-recorded
returns-clause-recorded g c h = record { known = h.known; handed_out = h.handed_out }
