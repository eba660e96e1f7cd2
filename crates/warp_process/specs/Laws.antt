-- What it comes to that a process is one of a behaviour, in the words of its subject.
use Rattle.std.specs.Prelude.{◌≡◌, ℕ, ◌≤◌, true, false, List, ◌++◌, length, take}
use Rattle.warp_base.specs.declared.event.Event.{Event}
use Rattle.warp_base.specs.Histories.{Behaviour, state_after, all_sent}
use Rattle.warp_process.specs.Processes.{ProcessFace, IsProcess, HasFailed, done_of}

module _ {P : Type 0} (words : P → List ℕ) (S : Type 0) where
  -- all that a process has sent is what its committed past sent, and after it what it keeps as sent
  abbrev pub SentIsKept : Type 0
  SentIsKept =
      (b : Behaviour P S) (past : List (Event P)) (f : ProcessFace P S) → IsProcess words b past f
      → all_sent b f.number (done_of past f) ≡ all_sent b f.number past ++ f.sent

  -- the start, or a state after some of the committed events, is a fault of the model's own
  abbrev pub IsFaultyPast : Behaviour P S → ℕ → List (Event P) → Type 0
  IsFaultyPast b p past = (k : ℕ) × (k ≤ length past) × (b.faulty (state_after b p (take k past)) ≡ true)

  -- a process has failed exactly where that is so
  pub record FailureIsReal (b : Behaviour P S) (past : List (Event P)) (f : ProcessFace P S) : Type 0 where
    pub failed : HasFailed f → IsFaultyPast b f.number past
    pub sound : (HasFailed f → ⊥) → (k : ℕ) → k ≤ length past → b.faulty (state_after b f.number (take k past)) ≡ false

  abbrev pub FailuresAreReal : Type 0
  FailuresAreReal = (b : Behaviour P S) (past : List (Event P)) (f : ProcessFace P S) → IsProcess words b past f → FailureIsReal b past f
