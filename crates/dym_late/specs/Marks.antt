-- The logs of a heap of late events: log j is taken where 16 * j events of the order are in the heap, for j up to 255, since
-- at most 4,096 events are accepted.
use Rattle.std.specs.Prelude.{⊤, ◌≡◌, ℕ, ◌+◌, ◌-◌, ◌*◌, ◌/◌, ◌%◌, ◌<◌, nat_lt, if◌then◌else◌, min, List, [], ◌∷◌, take}
use Rattle.dym_base.specs.Heaps.{Live}
use Rattle.dym_base.specs.Objects.{LogEntry, empty_heap}
use Rattle.dym_base.specs.LateRun.{LateEvent, events_before, heap_after, events_a_log, log_before}
use Rattle.dym_base.specs.declared.command.Version.TheVariants.{One}
use Rattle.dym_base.specs.declared.limits.TheConstants.{MOST_LATE_EVENTS}

-- the last log that is taken at or before n events
abbrev pub last_log_point : ℕ → ℕ
last_log_point n = min (MOST_LATE_EVENTS / events_a_log - 1) (n / events_a_log)

-- the oldest log that is kept: the last one at or before the number of events with a time before the bound
abbrev pub oldest_log_point : ℕ → List LateEvent → ℕ
oldest_log_point bound events = last_log_point (events_before bound events)

-- the chunks that the first n of these ordered events make
abbrev pub live_after : ℕ → List LateEvent → ℕ → Live
live_after quota ordered n = (heap_after One quota empty_heap (take n ordered)).live

-- these are the logs of the ordered events from log b on
abbrev pub AreMarks : ℕ → List LateEvent → ℕ → List LogEntry → Type 0
AreMarks quota ordered b [] = ⊤
AreMarks quota ordered b (log ∷ logs) =
    (log.time ≡ events_a_log * b) × (log.copy ≡ live_after quota ordered log.time) × AreMarks quota ordered (b + 1) logs

-- a log is taken where this many events are in the heap
abbrev pub IsLogPoint : ℕ → Type 0
IsLogPoint n = (n % events_a_log ≡ 0) × (n < MOST_LATE_EVENTS)

-- from which of n events on commands are run where an event is put behind p of them
abbrev pub start_of : ℕ → ℕ → ℕ
start_of n p = if nat_lt p n then log_before p else n
