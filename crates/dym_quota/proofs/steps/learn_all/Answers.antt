use Rattle.dym_region.specs.contracts.raw_segment.RawSegmentSegment.TheImpl.{ghosts}
use Rattle.dym_quota.proofs.Queued.{holds_all, queue_empty}
use Rattle.dym_quota.proofs.steps.learn_all.Goals as goal

pub learn_as-requires-clause-rule : goal.learn_as-requires-clause-rule
learn_as-requires-clause-rule c = holds_all ghosts.id _ _ c.requires.some_quota c.requires.whole

pub returns : goal.returns
returns c = let l = c.learn_as.ensures.rule in record { held = queue_empty ghosts.id _ _ l.0 c.requires.all l.1 }
