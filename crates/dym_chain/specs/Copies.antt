-- What clauses alone know of a chain: the whole copies.
use Rattle.std.specs.Prelude.{◌≡◌, ℕ, List, map, take, drop}
use Rattle.dym_base.specs.LawfulLists.{IsLawful}
use Rattle.dym_base.specs.Objects.{LogEntry}
use Rattle.dym_base.specs.Packed.{Logged, packed}
use Rattle.dym_base.specs.declared.command.Version.{Version}
use Rattle.dym_chain.specs.AdoptedLogs.{entries_of}

-- the logs before the oldest kept one that later restores read, and the kept ones
pub record ChainCopies : Type 0 where
  pub base_logs : List LogEntry
  pub logs : List LogEntry

-- records from which logs are read, and the place of the first that is kept
pub record ReadRecords : Type 0 where
  pub first : ℕ
  pub records : List (List ℕ)

-- what the logs of a lawful list are told to be
abbrev pub copies_of : ℕ → List Logged → ChainCopies
copies_of first logs = record { base_logs = take first (entries_of logs); logs = drop first (entries_of logs) }

-- this is what records say, read as the logs of some lawful list of them
abbrev pub AreCopiesOf : ReadRecords → ChainCopies → Type 0
AreCopiesOf read_records copies = (v : Version) × (logs : List Logged) × IsLawful v read_records.first logs × (map packed logs ≡ read_records.records) × (copies ≡ copies_of read_records.first logs)
