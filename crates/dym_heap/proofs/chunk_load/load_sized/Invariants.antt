use Rattle.std.proofs.Common.{ℕ, ◌-◌, ◌≤◌, List, length}
use Rattle.dym_base.specs.Numbers.{per}
use Rattle.dym_base.specs.declared.command.Version.TheVariants.{Two}
use Rattle.dym_area.specs.Area.{IsValidArea}
use Rattle.dym_heap.specs.Bodies.{IsBodyOf}
use Rattle.dym_heap.proofs.Loads.{LoadedTo, NotedTo}
use Rattle.dym_heap.proofs.chunk_load.load_sized.Given as goal

abbrev pub invariant-loop-i : goal.invariant-loop-i
invariant-loop-i g l = record {
  small : l.from ≤ per l.fn.area.exponent;
  within : l.at ≤ length l.body;
  valid : IsValidArea l.area;
  loaded : (f : ℕ → List ℕ) → IsBodyOf Two l.fn.area.exponent l.packed l.body f → LoadedTo Two l.fn.area l.packed l.wanted l.body f l.area l.from l.at;
  noted : (f : ℕ → List ℕ) → IsBodyOf Two l.fn.area.exponent l.packed l.body f → NotedTo l.fn.lengths.table.items l.lengths.table.items l.wanted f l.from;
}

abbrev pub decreases-loop-i : goal.decreases-loop-i
decreases-loop-i g l = per l.fn.area.exponent - l.from
