use Rattle.std.proofs.Common.{length, subst}
use Rattle.std.proofs.Common.{◌≡◌}
use Rattle.dym_base.specs.Objects.{slots}
use Rattle.dym_chain.specs.Chains.{ChainMeaning}
use Rattle.dym_chain.proofs.Prunes.{slots_are}
use Rattle.dym_chain.proofs.chain.Chain.into_keep.Goals as goal

pub returns-clause-slots : goal.returns-clause-slots
returns-clause-slots g c = subst (λ (x : ChainMeaning). length x.records ≡ slots x.logs) c.self.view_is (slots_are _ c.self.invariant.chain.lawful)
