-- What taking logs again comes to. It is the contract of a function of src/laws.rt.
use Rattle.std.specs.Prelude.{◌≡◌, ℕ, List, map}
use Rattle.dym_base.specs.BaseLogs.{oldest_depth}
use Rattle.dym_base.specs.Heaps.{Live}
use Rattle.dym_base.specs.Objects.{LogEntry}
use Rattle.dym_undo_files.specs.TakenAgain.{taken_again}

-- what a log brings back, and when it was
pub record Brought : Type 0 where
  pub time : ℕ
  pub copy : Live

abbrev pub brought_by : LogEntry → Brought
brought_by e = record { time = e.time; copy = e.copy }

-- logs that are taken again bring back what they brought back, each at its time
abbrev pub TimesAndCopiesStay : Type 0
TimesAndCopiesStay = (logs : List LogEntry) → map brought_by (taken_again logs) ≡ map brought_by logs

-- and the oldest is full
abbrev pub OldestIsFull : Type 0
OldestIsFull = (logs : List LogEntry) → oldest_depth (taken_again logs) ≡ 0
