-- Which process is told to have failed.
use Rattle.std.specs.Prelude.{ℕ, Option, Some, None}

-- the first of two, where there is one
abbrev pub first_told : Option ℕ → Option ℕ → Option ℕ
first_told (Some p) other = Some p
first_told None other = other

-- a process that has a fault, by its number
abbrev pub told_of : Option ℕ → ℕ → Option ℕ
told_of (Some date) number = Some number
told_of None number = None
