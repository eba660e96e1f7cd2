use Rattle.std.proofs.Common.{arith}
use Rattle.dym_base.specs.RunLaws.{IsLogList}
use Rattle.dym_base.proofs.Runs.{kept_along, log_list_kept}
use Rattle.dym_base.proofs.laws.runs_keep_logs.Goals as goal

pub returns : goal.returns
returns c v quota commands = kept_along (λ s. IsLogList s.logs) v quota (log_list_kept v quota) commands (omega arith, tt, tt)
