-- What a simulation returns, whoever ran it: the end of the run in order, or what that run meets instead.
use Rattle.std.specs.Prelude.{◌≡◌, ℕ, ◌+◌, ◌<◌, ◌≤◌, ◌^◌, ◌⊎◌, true, false, List, length, slice_get, Some}
use Rattle.warp_base.specs.declared.event.Event.{Event}
use Rattle.warp_base.specs.Histories.{Behaviour}
use Rattle.warp_base.specs.Sequential.{sequential, IsOver}

module _ {P S : Type 0} (words : P → List ℕ) (b : Behaviour P S) (n end : ℕ) where
  -- until then no process of the run is in a state that is the model's own fault
  abbrev pub IsSoundUntil : ℕ → Type 0
  IsSoundUntil steps = (k p : ℕ) → k ≤ steps → p < n → b.faulty ((sequential words b n end k).states p) ≡ false

  -- the run in order to the end is over, with these states, one for each process, and after this number of events
  pub record IsEnd (states : List S) (committed : ℕ) : Type 0 where
    pub steps : ℕ
    pub over : IsOver end (sequential words b n end steps)
    pub count : length states ≡ n
    pub state : (p : ℕ) → p < n → slice_get states p ≡ Some ((sequential words b n end steps).states p)
    pub number : committed ≡ length (sequential words b n end steps).ran
    pub sound : IsSoundUntil steps

  -- the first fault that the run meets is one of this process, the least where several start with one
  pub record FaultsFirstAt (p : ℕ) : Type 0 where
    pub steps : ℕ
    pub within : p < n
    pub fault : b.faulty ((sequential words b n end steps).states p) ≡ true
    pub before : (k q : ℕ) → k < steps → q < n → b.faulty ((sequential words b n end k).states q) ≡ false
    pub beside : (q : ℕ) → q < p → b.faulty ((sequential words b n end steps).states q) ≡ false

  -- the run comes to a state of this process that is a fault of the model's own
  pub record FaultsAt (p : ℕ) : Type 0 where
    pub steps : ℕ
    pub within : p < n
    pub fault : b.faulty ((sequential words b n end steps).states p) ≡ true

  -- the run has more events, or one of its processes sends more, than 64 bits count
  pub record IsTooLong : Type 0 where
    pub steps : ℕ
    pub many : (2 ^ 64 ≤ length (sequential words b n end steps).ran + 1) ⊎ ((p : ℕ) × (2 ^ 64 ≤ (sequential words b n end steps).serials p))

  -- the run comes to 2^63 events, half of what 64 bits count, or one of its processes has sent so many that with what one event more would send,
  -- in any state, they are 2^63. Of a model whose events send a few events each, that is so only of a run that is as long
  pub record IsHalfTooLong : Type 0 where
    pub steps : ℕ
    pub many : (2 ^ 63 ≤ length (sequential words b n end steps).ran)
        ⊎ ((p : ℕ) × (s : S) × (e : Event P) × (2 ^ 63 ≤ (sequential words b n end steps).serials p + length (b.drafts p s e)))
