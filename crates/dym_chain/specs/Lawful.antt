-- What is true of every chain.
use Rattle.std.specs.Prelude.{◌≡◌, ℕ, ◌≤◌, List, length, map}
use Rattle.std.specs.List.{AllByRecursion}
use Rattle.dym_base.specs.Objects.{LogEntry, record_of, kind_of}
use Rattle.dym_base.specs.Packed.{Logged}
use Rattle.dym_base.specs.RunLaws.{IsLogList, EachFollows}
use Rattle.dym_base.specs.declared.command.Version.{Version}
use Rattle.dym_base.specs.declared.limits.TheConstants.{MOST_KEPT_LOGS}
use Rattle.dym_base.specs.Recorded.{IsRecorded}
use Rattle.dym_chain.specs.Keeps.{bytes_of}
use Rattle.dym_base.specs.BaseLogs.{oldest_depth}
use Rattle.dym_chain.specs.Chains.{ChainMeaning, all_logs, EachKeeps}
use Rattle.dym_chain.specs.declared.entry.Entry.{Entry}

-- a log as its record has it
abbrev pub logged_of : Version → LogEntry → Logged
logged_of v e = record { version = v; kind = kind_of e; time = e.time; copy = e.copy; found = e.found }

-- what is true of every chain
pub record IsLawful (c : ChainMeaning) : Type 0 where
  pub version : Version
  -- the records are those of the logs, which a record can hold
  pub records : bytes_of c.records ≡ map (record_of version) (all_logs c)
  pub recorded : AllByRecursion (λ (e : LogEntry). IsRecorded (logged_of version e)) (all_logs c)
  -- the kept logs are such as an object keeps
  pub list : IsLogList c.logs
  -- the first log is full, each follows the one before it, and keeps from it what it didn't find touched
  pub full : oldest_depth (all_logs c) ≡ 0
  pub follows : EachFollows (all_logs c)
  pub keeps : EachKeeps (all_logs c)
  -- below the oldest kept log are as many as its depth
  pub base : length c.base_logs ≡ oldest_depth c.logs

-- the time and the depth of a log
abbrev pub entry_of : LogEntry → Entry
entry_of e = record { time = e.time; depth = e.depth }

-- what the fields of a chain show: the logs' times and depths
pub record Shows (kept : List Entry) (capacity : ℕ) (logs : List LogEntry) : Type 0 where
  pub entries : kept ≡ map entry_of logs
  pub room : MOST_KEPT_LOGS ≤ capacity
