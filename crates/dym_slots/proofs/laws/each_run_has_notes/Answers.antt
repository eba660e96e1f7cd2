use Rattle.dym_slots.proofs.Notes.{run_has_notes}
use Rattle.dym_slots.proofs.laws.each_run_has_notes.Goals as goal

pub returns : goal.returns
returns _ = run_has_notes
