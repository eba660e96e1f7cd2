use Rattle.dym_undo_files.proofs.TakenLists.{taken_brings, taken_full}
use Rattle.dym_undo_files.proofs.laws.taken_logs_bring_back.Goals as goal

pub returns-clause-stay : goal.returns-clause-stay
returns-clause-stay c = taken_brings

pub returns-clause-full : goal.returns-clause-full
returns-clause-full c = taken_full
