-- What holds of the grammar, in the words of an input's lines.
use Rattle.std.specs.Prelude.{◌≡◌, ◌+◌, ◌<◌, ◌≤◌, ℕ, List, ◌++◌, length, Err}
use Rattle.dym_script.specs.Scripts.{Reading, Fault, read_lines}

-- after the first bad line nothing matters
abbrev pub FaultStays : Type 0
FaultStays =
    (r : Reading) (number : ℕ) (lines more : List (List ℕ)) (fault : Fault) → read_lines r number lines ≡ Err fault → read_lines r number (lines ++ more) ≡ Err fault

-- the bad line is one of the lines that are read
abbrev pub FaultIsWithin : Type 0
FaultIsWithin =
    (r : Reading) (number : ℕ) (lines : List (List ℕ)) (fault : Fault) → read_lines r number lines ≡ Err fault → (number ≤ fault.line) × (fault.line < number + length lines)
