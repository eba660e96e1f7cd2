-- What a heap of late events stands for, as its callers see it.
use Rattle.std.specs.Prelude.{◌≡◌, ℕ, ◌<◌, ◌≤◌, Bool, false, List, [], length}
use Rattle.dym_base.specs.LateRun.{LateEvent, IsEventCommand, late_heap, replayed}
use Rattle.dym_base.specs.Objects.{empty_heap}
use Rattle.dym_base.specs.Origins.{Origin}
use Rattle.dym_base.specs.declared.command.Version.TheVariants.{One}
use Rattle.dym_heap.specs.Meaning.{HeapMeaning, IsSound}
use Rattle.dym_base.specs.declared.limits.TheConstants.{MOST_LATE_EVENTS}
use Rattle.dym_late.specs.Orders.{event_at}

-- a heap of late events: its heap, the accepted events in the order of arrival, the greatest time that was committed, and whether
-- memory was wanting for an event
pub record LateMeaning : Type 0 where
  pub heap : HeapMeaning
  pub events : List LateEvent
  pub bound : ℕ
  pub broken : Bool

-- an empty heap of version 1 over a supply of this quota and origin
abbrev pub fresh_heap : ℕ → Origin → HeapMeaning
fresh_heap quota origin = record { version = One; quota = quota; state = empty_heap; held_ids = []; origin = origin; applied = 0 }

-- and a heap of late events with no event
abbrev pub fresh_late : ℕ → Origin → LateMeaning
fresh_late quota origin = record { heap = fresh_heap quota origin; events = []; bound = 0; broken = false }

-- what is true of every heap of late events that isn't broken: the heap is the one that the events make in their order, and as many
-- commands were applied to it as are run for them
pub record IsLate (m : LateMeaning) : Type 0 where
  pub version : m.heap.version ≡ One
  pub sound : IsSound m.heap
  pub live : m.heap.state.live ≡ (late_heap One m.heap.quota m.events).live
  pub applied : m.heap.applied ≡ replayed m.events
  pub few : length m.events ≤ MOST_LATE_EVENTS
  pub commands : (k : ℕ) → k < length m.events → IsEventCommand (event_at m.events k).command
