-- Logs that are taken again, of their copies alone: the oldest is full, and each later one incremental, of what differs from the copy
-- before it.
use Rattle.std.specs.Prelude.{ℕ, Bool, false, not, List, [], ◌∷◌, ◌++◌, unwrap_or, Option, None, Some}
use Rattle.std.specs.Str.{bytes_eq}
use Rattle.std.specs.List.{filter}
use Rattle.std.specs.FinMap.{get, keys}
use Rattle.std.specs.FinMap as map
use Rattle.std.specs.FinSet.{from_list}
use Rattle.dym_base.specs.Files.{file_of}
use Rattle.dym_base.specs.Heaps.{Live, Touched}
use Rattle.dym_base.specs.Objects.{LogEntry, ObjectState, newest, new_entry}
use Rattle.dym_base.specs.declared.command.Kind.TheVariants.{Inc}
use Rattle.dym_base.specs.declared.command.Version.{Version}

-- whether a chunk is live with these bytes
abbrev pub has_bytes : Option (List ℕ) → List ℕ → Bool
has_bytes None bytes = false
has_bytes (Some old) bytes = bytes_eq old bytes

-- whether the chunk of number k has in the map before the bytes that it has
abbrev pub is_same : Live → Live → ℕ → Bool
is_same before live k = has_bytes (get before k) (unwrap_or (get live k) [])

-- the chunks of a map that have other bytes in the map before it, or aren't live there
unfoldable pub differing : Live → Live → Touched
differing before live = from_list (filter (λ k. not (is_same before live k)) (keys live))

-- what is live in a log, and nothing where there is none
abbrev pub live_in : Option LogEntry → Live
live_in None = map.empty
live_in (Some e) = e.copy

-- an object with these logs whose heap became this copy since the newest of them: touched is what differs
abbrev pub changed_to : List LogEntry → Live → ObjectState
changed_to logs copy = record { heap = record { live = copy; touched = differing (live_in (newest logs)) copy }; logs = logs }

-- these logs, and behind them others, each taken again at its time
abbrev pub taken_behind : List LogEntry → List LogEntry → List LogEntry
taken_behind done [] = done
taken_behind done (e ∷ es) = taken_behind (done ++ new_entry (changed_to done e.copy) e.time Inc ∷ []) es

-- the logs taken again
abbrev pub taken_again : List LogEntry → List LogEntry
taken_again logs = taken_behind [] logs

-- the file of an undo log: that of its logs taken again, below which nothing stands
abbrev pub file_taken_again : List ℕ → ℕ → Version → List LogEntry → List ℕ
file_taken_again name quota v logs = file_of name quota v [] (taken_again logs)
