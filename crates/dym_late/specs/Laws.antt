-- What the definition of late events comes to, in the words of its subject.
use Rattle.std.specs.Prelude.{◌≡◌, ℕ, ◌<◌, ◌≤◌, ◌⊎◌, max, List, [], ◌∷◌, ◌++◌, length, slice_get, Some, IsSome}
use Rattle.dym_base.specs.LateRun.{LateEvent, Arrival, event, commit, bound_after, accepted, order, place_of}
use Rattle.dym_late.specs.Orders.{event_at}

-- one event comes before another in the order: its time is less, or it is the same and it came first
abbrev pub ComesBefore : List LateEvent → ℕ → ℕ → Type 0
ComesBefore events i j =
    ((event_at events i).time < (event_at events j).time) ⊎ (((event_at events i).time ≡ (event_at events j).time) × (i < j))

-- each event has a place in the order and stands there, there are no others, and one that comes before another stands before it
pub record StandInOrder (events : List LateEvent) : Type 0 where
  pub count : length (order events) ≡ length events
  pub has_place : (k : ℕ) → k < length events → IsSome (place_of events k)
  pub stands : (k p : ℕ) → place_of events k ≡ Some p → slice_get (order events) p ≡ slice_get events k
  pub before : (i j p q : ℕ) → place_of events i ≡ Some p → place_of events j ≡ Some q → ComesBefore events i j → p < q

-- what one arrival more changes: an event is accepted where its time isn't before the bound, and a commit raises the bound alone
pub record AddUp (arrivals : List Arrival) : Type 0 where
  pub in_time : (e : LateEvent) → bound_after 0 arrivals ≤ e.time → accepted (arrivals ++ event e ∷ []) ≡ accepted arrivals ++ e ∷ []
  pub too_early : (e : LateEvent) → e.time < bound_after 0 arrivals → accepted (arrivals ++ event e ∷ []) ≡ accepted arrivals
  pub event_bound : (e : LateEvent) → bound_after 0 (arrivals ++ event e ∷ []) ≡ bound_after 0 arrivals
  pub committed : (t : ℕ) → accepted (arrivals ++ commit t ∷ []) ≡ accepted arrivals
  pub commit_bound : (t : ℕ) → bound_after 0 (arrivals ++ commit t ∷ []) ≡ max (bound_after 0 arrivals) t
