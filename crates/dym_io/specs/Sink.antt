-- What a sink tells, and what a call that writes a text does to it.
use Rattle.std.specs.Prelude.{◌≡◌, ℕ, List, ◌++◌, length, take, Option, Some, Result, MatchResult, IfSome, OnSome}
use Rattle.std.specs.Io.KnownBytes.{Appends, Keeps}
use Rattle.dym_io.specs.Faults.{RoseOnce}

-- What a sink tells of itself.
pub record Output : Type 0 where
  -- the bytes that were written, where the sink tells them
  pub written : Option (List ℕ)
  -- how many of them were flushed, where it tells that
  pub flushed : Option ℕ
  -- how often a call has failed
  pub faults : ℕ

-- A text was appended. Nothing was flushed, and no call failed.
pub record Appended (old new : Output) (text : List ℕ) : Type 0 where
  pub written : Appends old.written new.written text
  pub flushed : new.flushed ≡ old.flushed
  pub faults : new.faults ≡ old.faults

-- A call failed: nothing was appended and nothing flushed, and the count rose.
pub record Faulted (old new : Output) : Type 0 where
  pub written : Keeps old.written new.written
  pub flushed : new.flushed ≡ old.flushed
  pub rose : RoseOnce old.faults new.faults

-- The front of a text was appended, and nothing was flushed.
pub record AppendedFront (old new : Output) (text : List ℕ) : Type 0 where
  pub front : List ℕ
  pub rest : List ℕ
  pub whole : text ≡ front ++ rest
  pub written : Appends old.written new.written front
  pub flushed : new.flushed ≡ old.flushed

-- At Ok(n) the first n bytes of the piece were appended, and at an error none.
abbrev pub Pushes : {E : Type 0} → Output → Output → List ℕ → Result ℕ E → Type 0
Pushes old new piece result = MatchResult result (λ n. Appended old new (take n piece)) (λ _. Faulted old new)

-- A flush left all written bytes flushed, where that is told.
abbrev pub AllFlushed : Output → Output → Type 0
AllFlushed old new = IfSome new.written (λ bytes. OnSome old.flushed (new.flushed ≡ Some (length bytes)))

-- The front of a text was appended until a call failed. It was the only call that did.
pub record Stopped (old new : Output) (text : List ℕ) : Type 0 where
  pub front : AppendedFront old new text
  pub rose : RoseOnce old.faults new.faults

-- A text was written: all of it at Ok, with no fault. At an error a front of it was written, and one call failed.
abbrev pub Writes : {T E : Type 0} → Output → Output → List ℕ → Result T E → Type 0
Writes old new text result = MatchResult result (λ _. Appended old new text) (λ _. Stopped old new text)

-- What the count of faults tells of an error's cause: one call failed where the sink is the cause, and none where it isn't.
abbrev pub FaultsTellCause : Type 0 → Output → Output → Type 0
FaultsTellCause is_sinks old new = (is_sinks → RoseOnce old.faults new.faults) × (¬ is_sinks → new.faults ≡ old.faults)

-- A text was written, where an error may have another cause than the sink: all of it at Ok; at an error a front of
-- it, and the count of faults tells the cause.
abbrev pub WritesOr : {T E : Type 0} → (E → Type 0) → Output → Output → List ℕ → Result T E → Type 0
WritesOr IsSinks old new text result =
    MatchResult result (λ _. Appended old new text) (λ e. AppendedFront old new text × FaultsTellCause (IsSinks e) old new)

-- Of a text all but this rest was written.
pub record Leaves (old new : Output) (text rest : List ℕ) : Type 0 where
  pub done : List ℕ
  pub whole : text ≡ done ++ rest
  pub appended : Appended old new done
