use Rattle.dym_script.proofs.Faults.{fault_stays, fault_is_within}
use Rattle.dym_script.proofs.laws.first_fault.Goals as goal

pub returns : goal.returns
returns c = record { stays = fault_stays; within = fault_is_within }
