use Rattle.std.proofs.Common.{ℕ, ◌-◌, ◌≤◌, List, length}
use Rattle.dym_base.specs.Numbers.{per}
use Rattle.dym_base.specs.declared.command.Version.TheVariants.{One}
use Rattle.dym_area.specs.Area.{IsValidArea}
use Rattle.dym_heap.specs.Bodies.{IsBodyOf}
use Rattle.dym_heap.proofs.Loads.{LoadedTo}
use Rattle.dym_heap.proofs.chunk_load.load_runs.Given as goal

abbrev pub invariant-loop-start : goal.invariant-loop-start
invariant-loop-start g l = record {
  small : l.from ≤ per l.fn.area.exponent;
  within : l.at ≤ length l.body;
  valid : IsValidArea l.area;
  loaded : (f : ℕ → List ℕ) → IsBodyOf One l.fn.area.exponent l.packed l.body f → LoadedTo One l.fn.area l.packed l.wanted l.body f l.area l.from l.at;
}

abbrev pub decreases-loop-start : goal.decreases-loop-start
decreases-loop-start g l = per l.fn.area.exponent - l.from
