use Rattle.dym_area.specs.Area.{IsValidArea}
use Rattle.cross_crate_tests.proofs.area_tests.walk.Given as goal

abbrev pub invariant-loop-i : goal.invariant-loop-i
invariant-loop-i g l = IsValidArea l.area
