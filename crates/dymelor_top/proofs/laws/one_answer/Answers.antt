use Rattle.dymelor_top.proofs.Served as served
use Rattle.dymelor_top.proofs.laws.one_answer.Goals as goal

pub returns : goal.returns
returns _ = served.one_answer
