use Rattle.dym_region.specs.contracts.raw_segment.RawSegmentSegment.TheImpl.{ghosts}
use Rattle.dym_quota.proofs.Queued.{pushes, has_room, held_some}
use Rattle.dym_quota.proofs.steps.give.Goals as goal

pub push_as-requires-clause-rule : goal.push_as-requires-clause-rule
push_as-requires-clause-rule g c = (pushes ghosts.id _ _ _ _ c.requires.held, has_room ghosts.id _ _ (held_some _ _ c.requires.held))
