-- Processes under Time Warp, as mathematics, and what holds of them where nothing below a bound is left to do.
use Rattle.std.specs.Prelude.{◌≡◌, ℕ, suc, ◌+◌, ◌<◌, List, ◌++◌, take, drop}
use Rattle.warp_base.specs.declared.event.Event.{Event}
use Rattle.warp_base.specs.Events.{copies, IsInOrder, AreFor, AreFrom}
use Rattle.warp_base.specs.Histories.{Behaviour, state_after, all_sent, earlier}
use Rattle.warp_base.specs.Sequential.{sequential, IsOver, those_for}

-- for each process its committed past, the events since (the first `ran` of which are run), and the anti-messages whose event hasn't come.
-- Below the bound (GVT) no message is on its way and no event is left to run: each event that was sent has come, or its anti-message has
pub record IsSettled {P S : Type 0} (words : P → List ℕ) (b : Behaviour P S) (bound : ℕ) (past events early : ℕ → List (Event P)) (ran : ℕ → ℕ) : Type 0 where
  pub in_order : (p : ℕ) → IsInOrder words (past p ++ events p)
  pub own : (p : ℕ) → AreFor p (past p ++ events p)
  pub apart : (p : ℕ) (e : Event P) → 0 < copies words e (early p) → copies words e (past p ++ events p) ≡ 0
  pub pending : (p : ℕ) → AreFrom bound (drop (ran p) (events p))
  pub balanced : (e : Event P) → e.time < bound
      → copies words e (past e.receiver ++ events e.receiver)
      ≡ copies words e (all_sent b e.sender (past e.sender ++ take (ran e.sender) (events e.sender))) + copies words e (early e.receiver)

-- up to the end each process has the history that it has in the run in order after these steps, and the state after it is the run's
pub record IsSequential {P S : Type 0} (words : P → List ℕ) (b : Behaviour P S) (n end steps : ℕ) (histories : ℕ → List (Event P)) : Type 0 where
  pub history : (p : ℕ) → earlier (suc end) (histories p) ≡ those_for p (sequential words b n end steps).ran
  pub state : (p : ℕ) → state_after b p (earlier (suc end) (histories p)) ≡ (sequential words b n end steps).states p

-- the run in order ends, and these histories up to the end, and the states after them, are those of it
abbrev pub EndsAsSequential : {P S : Type 0} → (P → List ℕ) → Behaviour P S → ℕ → ℕ → (ℕ → List (Event P)) → Type 0
EndsAsSequential words b n end histories =
    (steps : ℕ) × IsOver end (sequential words b n end steps) × IsSequential words b n end steps histories
