use Rattle.std.proofs.Common.{◌≡◌, ◌+◌, None, get_or, subst, ◌∙◌, arith}
use Rattle.dym_heap.specs.Shelves.{FitsIn}
use Rattle.dym_heap.proofs.PlaceFacts as facts
use Rattle.dym_heap.proofs.sized_area.SizedArea.front.Goals as goal

pub bytes-requires-clause-used : goal.bytes-requires-clause-used
bytes-requires-clause-used g c = (facts.in_use c.self.view_is c.self.invariant c.args.i _ c.requires).is_set

pub bytes-requires-clause-within : goal.bytes-requires-clause-within
bytes-requires-clause-within g c = let u = facts.in_use c.self.view_is c.self.invariant c.args.i _ c.requires in let a = u.fits in let b = u.small in omega arith

pub returns : goal.returns
returns g c =
    let same : c.args.len ≡ 0 + c.args.len = omega arith in
    let u = facts.in_use c.self.view_is c.self.invariant c.args.i (0 + c.args.len) (subst (FitsIn (get_or c.args.self.now.chunks c.args.i None)) same c.requires) in
    facts.match_some _ _ u.at (c.bytes.ensures ∙ facts.read_p _ _ _ 0 c.args.len u)
