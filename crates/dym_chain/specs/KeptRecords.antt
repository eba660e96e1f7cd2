-- What is true of kept logs whose records can be read.
use Rattle.std.specs.Prelude.{◌≡◌, length, map}
use Rattle.std.specs.List.{AllByRecursion}
use Rattle.dym_base.specs.BaseLogs.{oldest_depth}
use Rattle.dym_base.specs.LawfulLists.{IsLawfulList}
use Rattle.dym_base.specs.Objects.{LogEntry, record_of}
use Rattle.dym_base.specs.Recorded.{IsRecorded}
use Rattle.dym_base.specs.RunLaws.{IsLogList, EachFollows}
use Rattle.dym_base.specs.declared.command.Version.{Version}
use Rattle.dym_chain.specs.Keeps.{bytes_of}
use Rattle.dym_chain.specs.Chains.{ChainMeaning, all_logs, EachKeeps, StandsForCopies}
use Rattle.dym_chain.specs.Lawful.{logged_of}

-- the records are those of the logs below and then of the kept ones, in one version; they are a lawful list with the oldest kept
-- log's depth, as many logs stand below it as that, and for each kept log the records from the last full one on stand for its copy.
-- The first of all these logs is full, each follows the one before it, and keeps from it what it didn't find touched
pub record AreKeptRecords (c : ChainMeaning) : Type 0 where
  pub version : Version
  pub records : bytes_of c.records ≡ map (record_of version) (all_logs c)
  pub lawful : IsLawfulList version (oldest_depth c.logs) (bytes_of c.records)
  pub list : IsLogList c.logs
  pub base : length c.base_logs ≡ oldest_depth c.logs
  pub stands : StandsForCopies c
  pub recorded : AllByRecursion (λ (e : LogEntry). IsRecorded (logged_of version e)) (all_logs c)
  pub full : oldest_depth (all_logs c) ≡ 0
  pub follows : EachFollows (all_logs c)
  pub keeps : EachKeeps (all_logs c)
