-- Late events: events of one heap arrive in any order of their times, and the heap is the one that they make in the order of
-- (time, arrival). A commit is a time before which no event is accepted any more.
use Rattle.std.specs.Prelude.{ℕ, ◌+◌, ◌-◌, ◌*◌, ◌/◌, max, List, [], ◌∷◌, ◌++◌, length, take, drop, count_by, slice_get, ◌==◌, nat_le, nat_lt, if◌then◌else◌, Option, None, Some}
use Rattle.dym_base.specs.Heaps.{HeapState}
use Rattle.dym_base.specs.HeapStep.{heap_step, IsHeapCommand}
use Rattle.dym_base.specs.Objects.{empty_heap}
use Rattle.dym_base.specs.declared.command.Version.{Version}
use Rattle.dym_base.specs.declared.command.Command.{Command}
use Rattle.dym_base.specs.declared.command.Command.TheVariants.{Read}
use Rattle.dym_base.specs.declared.reply.Reply.{Reply}

-- an event: one command to the heap, at a time
pub record LateEvent : Type 0 where
  pub time : ℕ
  pub command : Command

-- the commands that an event may have: those to a heap, but no read
abbrev pub IsEventCommand : Command → Type 0
IsEventCommand (Read h at n) = ⊥
IsEventCommand command = IsHeapCommand command

-- what comes for a heap of late events: an event, or a commit
pub data Arrival : Type 0 where
  event : LateEvent → Arrival
  commit : ℕ → Arrival

-- the greatest time that was committed, at least the bound
abbrev pub bound_after : ℕ → List Arrival → ℕ
bound_after bound [] = bound
bound_after bound (event e ∷ more) = bound_after bound more
bound_after bound (commit t ∷ more) = bound_after (max bound t) more

-- the events that are accepted, in the order of arrival: those whose time isn't below the greatest commit before them
abbrev pub accepted_after : ℕ → List Arrival → List LateEvent
accepted_after bound [] = []
accepted_after bound (event e ∷ more) =
    if nat_lt e.time bound then accepted_after bound more else e ∷ accepted_after bound more
accepted_after bound (commit t ∷ more) = accepted_after (max bound t) more

abbrev pub accepted : List Arrival → List LateEvent
accepted arrivals = accepted_after 0 arrivals

-- how many events have a time at or before t
abbrev pub events_to : ℕ → List LateEvent → ℕ
events_to t events = count_by (λ e. nat_le e.time t) events

-- how many events have a time before t
abbrev pub events_before : ℕ → List LateEvent → ℕ
events_before t events = count_by (λ e. nat_lt e.time t) events

-- ordered events with one more: behind those whose time is at most its own, before the later ones
abbrev pub placed : List LateEvent → LateEvent → List LateEvent
placed ordered e =
    let p = events_to e.time ordered in take p ordered ++ e ∷ drop p ordered

abbrev pub order_onto : List LateEvent → List LateEvent → List LateEvent
order_onto ordered [] = ordered
order_onto ordered (e ∷ es) = order_onto (placed ordered e) es

-- the events in the order of their times, those of one time in the order of arrival
abbrev pub order : List LateEvent → List LateEvent
order events = order_onto [] events

-- the heap after the commands of events, one after another
abbrev pub heap_after : Version → ℕ → HeapState → List LateEvent → HeapState
heap_after v quota s [] = s
heap_after v quota s (e ∷ es) = heap_after v quota (heap_step v quota s e.command).heap es

-- and their replies
abbrev pub replies_after : Version → ℕ → HeapState → List LateEvent → List Reply
replies_after v quota s [] = []
replies_after v quota s (e ∷ es) =
    (heap_step v quota s e.command).reply ∷ replies_after v quota (heap_step v quota s e.command).heap es

-- the heap that the accepted events make, in their order
abbrev pub late_heap : Version → ℕ → List LateEvent → HeapState
late_heap v quota events = heap_after v quota empty_heap (order events)

-- the place in the order of an event with these accepted before it, and those after it: the earlier ones, and of one time those
-- that came first, stand before it
abbrev pub place_between : List LateEvent → LateEvent → List LateEvent → ℕ
place_between before e after = events_to e.time before + events_before e.time after

abbrev pub place_of_first : List LateEvent → List LateEvent → Option ℕ
place_of_first before [] = None
place_of_first before (e ∷ after) = Some (place_between before e after)

-- the place in the order of the accepted event of number k, in the order of arrival
abbrev pub place_of : List LateEvent → ℕ → Option ℕ
place_of events k = place_of_first (take k events) (drop k events)

abbrev pub reply_at : List Reply → Option ℕ → Option Reply
reply_at replies None = None
reply_at replies (Some p) = slice_get replies p

-- the reply of the accepted event of number k: the one at its place in the order
abbrev pub late_reply : Version → ℕ → List LateEvent → ℕ → Option Reply
late_reply v quota events k = reply_at (replies_after v quota empty_heap (order events)) (place_of events k)

-- a log is taken after each such number of events
abbrev pub events_a_log : ℕ
events_a_log = 16

-- the last position at or before p at which a log is taken
abbrev pub log_before : ℕ → ℕ
log_before p = events_a_log * (p / events_a_log)

-- how many commands are run where an event is put behind p of n events: its own alone where it is the last one, else all from
-- the last log at or before its place on
abbrev pub replayed_by : ℕ → ℕ → ℕ
replayed_by n p = if p == n then 1 else n + 1 - log_before p

abbrev pub replayed_onto : List LateEvent → List LateEvent → ℕ
replayed_onto before [] = 0
replayed_onto before (e ∷ es) =
    replayed_by (length before) (events_to e.time before) + replayed_onto (before ++ e ∷ []) es

-- how many commands were run for all accepted events
abbrev pub replayed : List LateEvent → ℕ
replayed events = replayed_onto [] events
