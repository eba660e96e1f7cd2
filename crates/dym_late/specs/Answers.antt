-- What the answer to an event says.
use Rattle.std.specs.Prelude.{⊤, ℕ, Result, Ok, Err}
use Rattle.dym_base.specs.declared.command.Command.{Command}
use Rattle.dym_late.specs.declared.placement.Placed.{Placed}
use Rattle.dym_late.specs.declared.late_error.LateError.{LateError}
use Rattle.dym_late.specs.declared.late_error.LateError.TheVariants.{Early, Memory}

-- the event is too early
abbrev pub IsEarly : Result Placed LateError → Type 0
IsEarly (Ok placed) = ⊥
IsEarly (Err (Early bound command)) = ⊤
IsEarly (Err Memory) = ⊥

-- a fact of the bound and the command that come back with an event that is too early
abbrev pub IfEarly : Result Placed LateError → (ℕ → Command → Type 0) → Type 0
IfEarly (Ok placed) P = ⊤
IfEarly (Err (Early bound command)) P = P bound command
IfEarly (Err Memory) P = ⊤

-- memory was wanting
abbrev pub IsMemory : Result Placed LateError → Type 0
IsMemory (Ok placed) = ⊥
IsMemory (Err (Early bound command)) = ⊥
IsMemory (Err Memory) = ⊤
