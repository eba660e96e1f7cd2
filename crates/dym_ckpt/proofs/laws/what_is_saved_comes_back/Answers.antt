use Rattle.dym_ckpt.proofs.SavedAgain.{saved_is_file, saved_comes_back}
use Rattle.dym_ckpt.proofs.laws.what_is_saved_comes_back.Goals as goal

pub returns-clause-file : goal.returns-clause-file
returns-clause-file c = saved_is_file

pub returns-clause-back : goal.returns-clause-back
returns-clause-back c = saved_comes_back c.records_say_their_logs.ensures.logs
