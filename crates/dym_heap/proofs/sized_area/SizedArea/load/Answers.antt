use Rattle.std.proofs.Common.{ap}
use Rattle.dym_heap.specs.Lengths.{numbers_of}
use Rattle.dym_heap.proofs.PlaceSteps.{is_place}
use Rattle.dym_heap.proofs.PlaceLoads as loads
use Rattle.dym_heap.proofs.sized_area.SizedArea.load.Goals as goal

pub returns-in-None-clause-loaded : goal.returns-in-None-clause-loaded
returns-in-None-clause-loaded g c = λ f is.
    (loads.loads_one c.self.view_is c.self.invariant c.args.wanted.now c.requires.wanted is c.load_runs.ensures.valid (ap numbers_of c.in-None.is) c.load_runs.ensures.loaded).loaded

pub returns-in-None-clause-valid : goal.returns-in-None-clause-valid
returns-in-None-clause-valid g c =
    is_place (loads.loads_one c.self.view_is c.self.invariant c.args.wanted.now c.requires.wanted c.requires.body.1 c.load_runs.ensures.valid (ap numbers_of c.in-None.is) c.load_runs.ensures.loaded).measured

pub returns-in-Some-clause-loaded : goal.returns-in-Some-clause-loaded
returns-in-Some-clause-loaded g c = λ f is.
    (loads.loads_two c.self.view_is c.self.invariant c.args.wanted.now c.requires.wanted is c.load_sized.ensures.valid _ _ (ap numbers_of c.in-Some.is) c.load_sized.ensures.loaded c.load_sized.ensures.noted).loaded

pub returns-in-Some-clause-valid : goal.returns-in-Some-clause-valid
returns-in-Some-clause-valid g c =
    is_place (loads.loads_two c.self.view_is c.self.invariant c.args.wanted.now c.requires.wanted c.requires.body.1 c.load_sized.ensures.valid _ _ (ap numbers_of c.in-Some.is) c.load_sized.ensures.loaded c.load_sized.ensures.noted).measured
