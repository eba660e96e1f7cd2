-- What a failure says.
use Rattle.std.specs.Prelude.{⊤, ℕ}
use Rattle.warp_run.specs.declared.finished.Failure.{Failure}
use Rattle.warp_run.specs.declared.finished.Failure.TheVariants.{OutOfMemory, Fault, TooManyEvents}

-- a fact of the process that is told to be faulty, and one where there are too many events
abbrev pub MatchFailure : (ℕ → Type 0) → Type 0 → Failure → Type 0
MatchFailure fault many OutOfMemory = ⊤
MatchFailure fault many (Fault process) = fault process
MatchFailure fault many TooManyEvents = many
