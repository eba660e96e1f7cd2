use Rattle.std.proofs.Common.{◌+◌, ◌≤◌, length, subst}
use Rattle.crossbeam_queue.specs.Passes.{view}
use Rattle.dym_region.specs.contracts.raw_segment.RawSegmentSegment.TheImpl.{ghosts}
use Rattle.dym_quota.proofs.Queued.{forks_part}
use Rattle.dym_quota.proofs.steps.part_by.Goals as goal

pub another-requires-clause-rule : goal.another-requires-clause-rule
another-requires-clause-rule g c = forks_part ghosts.id _ _ _ (subst (λ n. length (view c.args.pass.now).held + n ≤ (view c.args.pass.now).quota) c.requires.amount c.requires.enough)
