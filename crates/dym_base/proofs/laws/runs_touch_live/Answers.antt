use Rattle.dym_base.specs.RunLaws.{TouchedIsLive}
use Rattle.dym_base.proofs.Touched.{empty_touches}
use Rattle.dym_base.proofs.Runs.{kept_along, touched_kept}
use Rattle.dym_base.proofs.laws.runs_touch_live.Goals as goal

pub returns : goal.returns
returns c v quota commands = kept_along TouchedIsLive v quota (touched_kept v quota) commands (empty_touches, tt)
