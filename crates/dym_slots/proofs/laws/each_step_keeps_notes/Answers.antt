use Rattle.dym_slots.proofs.Notes.{step_keeps_notes}
use Rattle.dym_slots.proofs.laws.each_step_keeps_notes.Goals as goal

pub returns : goal.returns
returns _ = step_keeps_notes
