-- The accepted events in the order of their times, by their numbers in the order of arrival.
use Rattle.std.specs.Prelude.{◌≡◌, ℕ, suc, ◌<◌, ◌≤◌, List, length, take, drop, slice_index_or}
use Rattle.dym_base.specs.LateRun as LateRun
use Rattle.dym_base.specs.LateRun.{LateEvent, events_to, place_between}
use Rattle.dym_base.specs.declared.command.Command.TheVariants.{Logs}

-- what stands at a number past the end
abbrev pub no_event : LateEvent
no_event = record { time = 0; command = Logs }

abbrev pub event_at : List LateEvent → ℕ → LateEvent
event_at events k = slice_index_or events k no_event

-- the place of event k in the order of the times
abbrev pub rank : List LateEvent → ℕ → ℕ
rank events k = place_between (take k events) (event_at events k) (drop (suc k) events)

-- these numbers name the events in the order of their times, those of one time in the order of arrival
pub record IsOrder (events : List LateEvent) (order : List ℕ) : Type 0 where
  pub count : length order ≡ length events
  -- each number is that of an event, which stands at this place
  pub number : (j : ℕ) → j < length events → slice_index_or order j 0 < length events
  pub event : (j : ℕ) → j < length events → event_at (LateRun.order events) j ≡ event_at events (slice_index_or order j 0)
  pub rank_of : (j : ℕ) → j < length events → rank events (slice_index_or order j 0) ≡ j
  -- each event has a place, at which its number stands
  pub within : (k : ℕ) → k < length events → rank events k < length events
  pub at_rank : (k : ℕ) → k < length events → slice_index_or order (rank events k) 0 ≡ k
  -- those at or before a time stand first
  pub early : (j t : ℕ) → j < events_to t events → (event_at events (slice_index_or order j 0)).time ≤ t
  pub late : (j t : ℕ) → events_to t events ≤ j → j < length events → t < (event_at events (slice_index_or order j 0)).time
