use Rattle.dym_chain.proofs.SaidLists.{say_their_logs, read_logs_belong}
use Rattle.dym_chain.proofs.laws.records_say_their_logs.Goals as goal

pub returns-clause-logs : goal.returns-clause-logs
returns-clause-logs c = say_their_logs

pub returns-clause-belong : goal.returns-clause-belong
returns-clause-belong c = read_logs_belong
