use Rattle.dym_base.specs.Heaps.{Live}
use Rattle.dym_base.specs.Objects.{object_start}
use Rattle.dym_base.specs.Laws.{IsWellSized, ResizesHandle}
use Rattle.dym_base.specs.RunLaws.{IsSized}
use Rattle.dym_base.proofs.Sizes.{empty_sized, step_sized}
use Rattle.dym_base.proofs.Runs.{kept_by_commands, copies_kept}
use Rattle.dym_base.proofs.laws.runs_keep_sizes.Goals as goal

pub returns : goal.returns
returns c v quota commands few resizes =
    kept_by_commands ResizesHandle (IsSized v) v quota
    (λ s command fits sized. copies_kept (λ (live : Live). IsWellSized v live) v quota s command (step_sized v quota s.heap command few fits sized.0) sized)
    commands resizes object_start (empty_sized v, tt)
