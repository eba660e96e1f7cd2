-- The times to which the processes of a worker have come.
use Rattle.std.specs.Prelude.{◌≡◌, ℕ, ◌+◌, ◌-◌, ◌<◌, ◌≤◌, ◌⊎◌, Option, Some, None, List, length, slice_get}
use Rattle.warp_base.specs.declared.event.Event.{Event}
use Rattle.warp_process.specs.Processes.{ProcessFace}
use Rattle.warp_worker.specs.Workers.{WorkerFace, ran_of}

-- the last event that a process has run since its committed past
abbrev pub last_ran : {P S : Type 0} → ProcessFace P S → Option (Event P)
last_ran f = slice_get (ran_of f) (length f.marks - 1)

-- the time of an event, or what is told where there is none
abbrev pub time_or : {P : Type 0} → Option ℕ → Option (Event P) → Option ℕ
time_or told None = told
time_or told (Some e) = Some e.time

-- at the number of each process of a worker stands the time of the last event that it has run since its committed past, and where there is
-- none what is told of the past; at all other numbers stands what was there before
pub record TellsTimes {P S : Type 0} (w : WorkerFace P S) (committed old new : List ℕ) : Type 0 where
  pub count : length new ≡ length old
  pub time : (place : ℕ) (f : ProcessFace P S) → slice_get w.processes place ≡ Some f → w.first + place < length committed → w.first + place < length old
      → slice_get new (w.first + place) ≡ time_or (slice_get committed (w.first + place)) (last_ran f)
  pub others : (i : ℕ) → (i < w.first) ⊎ (w.first + length w.processes ≤ i) → slice_get new i ≡ slice_get old i
