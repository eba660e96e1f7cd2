use Rattle.dym_base.proofs.Standing.{full_stands_alone, stand_for_one}
use Rattle.dym_base.proofs.laws.logs_stand_for_one.Goals as goal

pub returns-clause-alone : goal.returns-clause-alone
returns-clause-alone c = full_stands_alone

pub returns-clause-one : goal.returns-clause-one
returns-clause-one c = stand_for_one
