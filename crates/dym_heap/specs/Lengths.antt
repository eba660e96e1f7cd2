-- The lengths that a place keeps, as numbers.
use Rattle.std.specs.Prelude.{ℕ, List, Option, None, Some}
use Rattle.dym_base.specs.declared.command.Version.{Version}
use Rattle.dym_heap.specs.declared.lengths.Lengths.{Lengths}
use Rattle.dym_heap.specs.SizedAreas.{version_by}

abbrev pub numbers_of : Option Lengths → Option (List ℕ)
numbers_of None = None
numbers_of (Some lengths) = Some lengths.table.items

abbrev pub version_of : Option Lengths → Version
version_of lengths = version_by (numbers_of lengths)
