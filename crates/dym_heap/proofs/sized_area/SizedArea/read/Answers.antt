use Rattle.std.proofs.Common.{arith, ◌∙◌, length}
use Rattle.dym_heap.proofs.PlaceFacts as facts
use Rattle.dym_heap.proofs.sized_area.SizedArea.read.Goals as goal

pub read-requires-clause-used : goal.read-requires-clause-used
read-requires-clause-used g c = (facts.in_use c.self.view_is c.self.invariant c.args.i _ c.requires).is_set

pub read-requires-clause-within : goal.read-requires-clause-within
read-requires-clause-within g c = let u = facts.in_use c.self.view_is c.self.invariant c.args.i _ c.requires in let a = u.fits in let b = u.small in omega arith

pub returns : goal.returns
returns g c =
    facts.match_some _ _ (facts.in_use c.self.view_is c.self.invariant c.args.i _ c.requires).at
    (c.read.ensures ∙ facts.read_p _ _ _ c.args.at (length c.args.out.now) (facts.in_use c.self.view_is c.self.invariant c.args.i _ c.requires))
