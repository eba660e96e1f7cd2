-- What the definitions come to, in the words of their subject. `words` reads payloads as numbers, S is the type of states, b any model.
use Rattle.std.specs.Prelude.{◌≡◌, ℕ, suc, ◌+◌, ◌<◌, ◌≤◌, List, [], ◌++◌, length, take}
use Rattle.warp_base.specs.declared.event.Event.{Event}
use Rattle.warp_base.specs.Events.{Each, copies}
use Rattle.warp_base.specs.Histories.{Behaviour, LooksAhead, StartsWithin, SendsWithin, state_after, all_sent, earlier, IsConsistent}
use Rattle.warp_base.specs.Sequential.{Run, sequential, IsOver, those_for}
use Rattle.warp_base.specs.Settled.{IsSettled, EndsAsSequential}

module _ {P : Type 0} (words : P → List ℕ) (S : Type 0) where
  -- below a bound there is one consistent family of histories
  abbrev pub OneHistory : Type 0
  OneHistory =
      (b : Behaviour P S) (bound : ℕ) (one other : ℕ → List (Event P)) → LooksAhead b → IsConsistent words b bound one → IsConsistent words b bound other
      → (p : ℕ) → earlier bound (one p) ≡ earlier bound (other p)

  -- a run in order has in each process the state, and has sent as much, as what it has run comes to
  pub record FollowsHistories (b : Behaviour P S) (r : Run P S) : Type 0 where
    pub states : (p : ℕ) → r.states p ≡ state_after b p (those_for p r.ran)
    pub serials : (p : ℕ) → r.serials p ≡ length (all_sent b p (those_for p r.ran))
    pub sent : (e : Event P) → copies words e r.ran + copies words e r.queue ≡ copies words e (all_sent b e.sender (those_for e.sender r.ran))

  -- each run in order does so, and once it is over what it has run is consistent up to its end
  pub record SequentialSound (b : Behaviour P S) (n end steps : ℕ) : Type 0 where
    pub follows : FollowsHistories b (sequential words b n end steps)
    pub consistent : IsOver end (sequential words b n end steps) → IsConsistent words b (suc end) (λ p. those_for p (sequential words b n end steps).ran)

  abbrev pub SequentialIsSound : Type 0
  SequentialIsSound = (b : Behaviour P S) (n end steps : ℕ) → LooksAhead b → StartsWithin n b → SequentialSound b n end steps

  -- where a family is consistent up to an end, and empty from process n on, the run in order to that end is over after some steps
  abbrev pub SequentialEnds : Type 0
  SequentialEnds =
      (b : Behaviour P S) (n end : ℕ) (histories : ℕ → List (Event P)) → LooksAhead b → StartsWithin n b → IsConsistent words b (suc end) histories
      → ((p : ℕ) → n ≤ p → histories p ≡ []) → (steps : ℕ) × IsOver end (sequential words b n end steps)

  -- a run in order that is over stays as it is
  abbrev pub OverStays : Type 0
  OverStays =
      (b : Behaviour P S) (n end steps more : ℕ) → IsOver end (sequential words b n end steps)
      → sequential words b n end (more + steps) ≡ sequential words b n end steps

  -- what is settled below a bound is final
  abbrev pub SettledIsFinal : Type 0
  SettledIsFinal =
      (b : Behaviour P S) (bound later : ℕ) (past events early later_past later_events later_early : ℕ → List (Event P)) (ran later_ran : ℕ → ℕ)
      → LooksAhead b → bound ≤ later → IsSettled words b bound past events early ran
      → IsSettled words b later later_past later_events later_early later_ran
      → (p : ℕ) → earlier bound (past p ++ events p) ≡ earlier bound (later_past p ++ later_events p)

  -- at a bound above 0 with all settled below it: what stands below it is the run in order to the tick before, whether or not that run is
  -- over to any later end, and no anti-message for an event below it waits
  pub record SafeBound (b : Behaviour P S) (n last : ℕ) (past events early : ℕ → List (Event P)) : Type 0 where
    pub sequential : EndsAsSequential words b n last (λ p. past p ++ events p)
    pub none_early : (p : ℕ) (e : Event P) → e.receiver ≡ p → e.time ≤ last → copies words e (early p) ≡ 0

  abbrev pub BoundIsSafe : Type 0
  BoundIsSafe =
      (b : Behaviour P S) (n last : ℕ) (past events early : ℕ → List (Event P)) (ran : ℕ → ℕ) → LooksAhead b → StartsWithin n b
      → IsSettled words b (suc last) past events early ran → ((p : ℕ) → n ≤ p → past p ++ events p ≡ [])
      → SafeBound b n last past events early

  -- each state after the first events that stand below a bound is one that the run in order reaches
  abbrev pub StatesAreReal : Type 0
  StatesAreReal =
      (b : Behaviour P S) (n last : ℕ) (past events early : ℕ → List (Event P)) (ran : ℕ → ℕ) → LooksAhead b → StartsWithin n b
      → IsSettled words b (suc last) past events early ran → ((p : ℕ) → n ≤ p → past p ++ events p ≡ [])
      → (p k : ℕ) → (steps : ℕ) × ((sequential words b n last steps).states p ≡ state_after b p (take k (earlier (suc last) (past p ++ events p))))

  -- whatever a process sends is for one of processes 0 to n - 1
  abbrev pub NothingBeyond : Type 0
  NothingBeyond =
      (b : Behaviour P S) (n p : ℕ) (es : List (Event P)) → SendsWithin n b → Each (λ (e : Event P). e.receiver < n) (all_sent b p es)
