use Rattle.dym_base.proofs.Quota.{step_within}
use Rattle.dym_base.proofs.laws.quota_is_kept.Goals as goal

pub returns : goal.returns
returns c = step_within
