use Rattle.dym_region.specs.contracts.raw_segment.RawSegmentSegment.TheImpl.{ghosts}
use Rattle.dym_quota.proofs.Queued.{stocks, stocked_few}
use Rattle.dym_quota.proofs.steps.stock.Goals as goal

pub push_as-requires-clause-rule : goal.push_as-requires-clause-rule
push_as-requires-clause-rule g c = (stocks ghosts.id _ _ _ _ c.requires.opens c.requires.fresh, stocked_few ghosts.id _ _ c.requires.opens)
