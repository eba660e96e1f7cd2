-- The parts of a script that was read into its objects.
use Rattle.std.specs.Prelude.{◌≡◌, ℕ, List, ◌++◌, map, sum, slice_range}
use Rattle.dym_script.specs.declared.parts.Part.{Part}
use Rattle.dym_words.specs.Laws.{CanRun}
use Rattle.dym_wave.specs.declared.shape.Shape.{Shape}

-- how many segments its object may hold
abbrev pub quota_of : Part → ℕ
quota_of part = part.decl.quota

-- so many workers, segments and commands of a turn may be asked for
abbrev pub IsShape : Shape → Type 0
IsShape s = CanRun s.workers s.segments s.quantum

-- the first of the parts have these quotas, in order
abbrev pub StandInLine : List Part → List ℕ → Type 0
StandInLine parts quotas = (rest : List ℕ) × (map quota_of parts ≡ quotas ++ rest)

-- the quotas of some objects, one after another, sum to this
pub record IsSumOfRun (quotas : List ℕ) (total : ℕ) : Type 0 where
  pub from : ℕ
  pub end : ℕ
  pub is : total ≡ sum (slice_range quotas from end)
