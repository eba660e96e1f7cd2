use Rattle.std.proofs.Common.{◌<◌, take}
use Rattle.warp_base.specs.declared.event.Draft.{Draft}
use Rattle.warp_base.specs.Events.{Each}
use Rattle.warp_object.proofs.object_process.are_within.Given as goal

abbrev pub invariant-loop-draft : goal.invariant-loop-draft
invariant-loop-draft g l = Each (λ (d : Draft g.row.P.Denot). d.receiver < l.processes) (take l.draft-index l.drafts)
