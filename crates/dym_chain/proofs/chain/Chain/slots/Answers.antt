use Rattle.std.proofs.Common.{subst}
use Rattle.dym_chain.specs.KeptRecords.{AreKeptRecords}
use Rattle.dym_chain.proofs.KeptLists.{are_kept}
use Rattle.dym_chain.proofs.chain.Chain.slots.Goals as goal

pub returns-in-None-clause-kept : goal.returns-in-None-clause-kept
returns-in-None-clause-kept g c = subst AreKeptRecords c.self.view_is (are_kept _ c.self.invariant.chain.lawful)

pub returns-in-Some-clause-kept : goal.returns-in-Some-clause-kept
returns-in-Some-clause-kept g c = subst AreKeptRecords c.self.view_is (are_kept _ c.self.invariant.chain.lawful)
