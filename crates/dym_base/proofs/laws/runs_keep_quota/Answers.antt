use Rattle.std.proofs.Common.{◌≤◌, arith}
use Rattle.dym_base.specs.Heaps.{Live, held}
use Rattle.dym_base.specs.RunLaws.{IsWithinQuota}
use Rattle.dym_base.proofs.Heaps.{held_empty}
use Rattle.dym_base.proofs.Quota.{step_within}
use Rattle.dym_base.proofs.Runs.{kept_along, copies_kept}
use Rattle.dym_base.proofs.laws.runs_keep_quota.Goals as goal

pub returns : goal.returns
returns c v quota commands =
    kept_along (IsWithinQuota quota) v quota
    (λ s command within. copies_kept (λ (live : Live). held live ≤ quota) v quota s command (step_within v quota s.heap command within.0) within)
    commands (omega (arith, held_empty), tt)
