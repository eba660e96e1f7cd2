use Rattle.dym_region.specs.contracts.raw_segment.RawSegmentSegment.TheImpl.{ghosts}
use Rattle.dym_quota.proofs.Queued.{pops, finds}
use Rattle.dym_quota.proofs.steps.take.Goals as goal

pub pop_as-requires-clause-rule : goal.pop_as-requires-clause-rule
pop_as-requires-clause-rule g c = (pops ghosts.id _ _ c.requires.below, finds ghosts.id _ _ c.requires.below)
