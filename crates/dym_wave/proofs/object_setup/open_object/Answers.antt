use Rattle.dym_wave.proofs.object_setup.open_object.Goals as goal

pub returns-in-Waiting-clause-state : goal.returns-in-Waiting-clause-state
returns-in-Waiting-clause-state g c views holds = c.open_over.ensures.state views
