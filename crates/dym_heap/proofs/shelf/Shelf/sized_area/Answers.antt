use Rattle.std.proofs.Common.{arith}
use Rattle.dym_heap.proofs.Lending as lending
use Rattle.dym_heap.proofs.shelf.Shelf.sized_area.Goals as goal

pub index-requires : goal.index-requires
index-requires g c = let l = lending.in_places c.self.view_is c.self.invariant.0 c.requires.tidy c.args.k c.requires.within in omega arith

pub returns-clause-area : goal.returns-clause-area
returns-clause-area g c =
    lending.area_is c.self.view_is c.self.invariant.0 c.requires.tidy
    (lending.in_places c.self.view_is c.self.invariant.0 c.requires.tidy c.args.k c.requires.within) c.index.ensures

pub returns-clause-version : goal.returns-clause-version
returns-clause-version g c =
    lending.version_is c.self.view_is c.self.invariant.0 c.requires.tidy
    (lending.in_places c.self.view_is c.self.invariant.0 c.requires.tidy c.args.k c.requires.within) c.index.ensures
