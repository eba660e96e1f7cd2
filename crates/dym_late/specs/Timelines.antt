-- A heap with its logs and its events: what is true of them where the first events of the order are run.
use Rattle.std.specs.Prelude.{◌≡◌, ℕ, ◌+◌, ◌*◌, ◌<◌, ◌≤◌, Bool, false, None, List, map, length, slice_get}
use Rattle.dym_base.specs.Objects.{empty_heap}
use Rattle.dym_base.specs.LateRun as LateRun
use Rattle.dym_base.specs.LateRun.{LateEvent, IsEventCommand, replies_after}
use Rattle.dym_base.specs.declared.command.Version.TheVariants.{One}
use Rattle.dym_base.specs.declared.reply.Reply.{Reply}
use Rattle.dym_heap.specs.Meaning.{HeapMeaning, IsSound}
use Rattle.dym_chain.specs.Chains.{ChainMeaning, Belongs}
use Rattle.dym_late.specs.Marks.{last_log_point, oldest_log_point, live_after, AreMarks}
use Rattle.dym_late.specs.Orders.{event_at, rank, IsOrder}
use Rattle.dym_base.specs.declared.limits.TheConstants.{MOST_LATE_EVENTS}
use Rattle.dym_late.specs.declared.event.Event.{Event}

-- an accepted event as the definition has it
abbrev pub late_event : Event → LateEvent
late_event e = record { time = e.time; command = e.command }

abbrev pub late_events : List Event → List LateEvent
late_events events = map late_event events

abbrev pub replies_of : List Event → List Reply
replies_of events = map (λ (e : Event). e.reply) events

-- the first n events of the order are run, and the logs are those at or before the first m of them, from the oldest one on that
-- the bound keeps
pub record IsRunTo (n m bound : ℕ) (events : List Event) (numbers : List ℕ) (heap : HeapMeaning) (chain : ChainMeaning) : Type 0 where
  pub order : IsOrder (late_events events) numbers
  pub commands : (k : ℕ) → k < length events → IsEventCommand (event_at (late_events events) k).command
  pub few : length events ≤ MOST_LATE_EVENTS
  pub version : heap.version ≡ One
  pub sound : IsSound heap
  pub belongs : Belongs heap.version heap.quota heap.state chain
  pub idle : chain.lifted ≡ None
  pub live : heap.state.live ≡ live_after heap.quota (LateRun.order (late_events events)) n
  pub replies : (k : ℕ) → k < length events → rank (late_events events) k < n
      → slice_get (replies_after One heap.quota empty_heap (LateRun.order (late_events events))) (rank (late_events events) k) ≡ slice_get (replies_of events) k
  pub logs : AreMarks heap.quota (LateRun.order (late_events events)) (oldest_log_point bound (late_events events)) chain.logs
  pub kept : length chain.logs + oldest_log_point bound (late_events events) ≡ last_log_point m + 1

-- the first n events of the order are run and logged
abbrev pub IsRun : ℕ → ℕ → List Event → List ℕ → HeapMeaning → ChainMeaning → Type 0
IsRun n bound events numbers heap chain = IsRunTo n n bound events numbers heap chain

-- all events are run, and no more commands were run and logs taken than so many for each
pub record IsWhole (bound : ℕ) (events : List Event) (numbers : List ℕ) (heap : HeapMeaning) (chain : ChainMeaning) : Type 0 where
  pub run : IsRun (length events) bound events numbers heap chain
  pub applied : heap.applied ≡ LateRun.replayed (late_events events)
  pub applied_few : heap.applied ≤ MOST_LATE_EVENTS * length events
  pub made_few : chain.made ≤ MOST_LATE_EVENTS * length events + 1

-- between two calls: all events are run, unless memory was wanting for one, and no record of the chain is out
pub record IsWholeUnless (broken : Bool) (bound : ℕ) (events : List Event) (numbers : List ℕ) (heap : HeapMeaning) (chain : ChainMeaning) : Type 0 where
  pub whole : broken ≡ false → IsWhole bound events numbers heap chain
  pub idle : chain.lifted ≡ None
