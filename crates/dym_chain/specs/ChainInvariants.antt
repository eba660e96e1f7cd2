-- A chain, read from its keep and from what clauses know besides.
use Rattle.dym_slots.specs.Meanings.{KeepMeaning}
use Rattle.dym_chain.specs.Chains.{ChainMeaning}
use Rattle.dym_chain.specs.Lawful.{IsLawful, Shows}
use Rattle.dym_chain.specs.Copies.{ChainCopies}
use Rattle.dym_chain.specs.declared.entry.Entry.{Entry}
use Rattle.dym_chain.specs.Differences.{AreDifferences}
use Rattle.std.specs.Prelude.{ℕ, List, Option}

abbrev pub chain_of : ChainCopies → KeepMeaning → ChainMeaning
chain_of copies keep = record {
  base_logs = copies.base_logs;
  logs = copies.logs;
  records = keep.records;
  made = keep.made;
  lifted = keep.lifted;
  origin = keep.origin;
}

-- what is true of the fields of every chain
pub record IsChain (kept : List Entry) (capacity : ℕ) (keep : KeepMeaning) (copies : ChainCopies) : Type 0 where
  pub shows : Shows kept capacity copies.logs
  pub lawful : IsLawful (chain_of copies keep)

-- and of what stands beside the records
pub record IsChainWithDifferences (kept : List Entry) (capacity : ℕ) (sides : List (Option (List ℕ))) (keep : KeepMeaning) (copies : ChainCopies) : Type 0 where
  pub chain : IsChain kept capacity keep copies
  pub differences : AreDifferences copies.logs sides
