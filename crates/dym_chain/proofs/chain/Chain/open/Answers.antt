use Rattle.std.proofs.Common.{◌≡◌, sym, subst}
use Rattle.dym_chain.specs.Chains.{Belongs, StandsForCopies}
use Rattle.dym_chain.specs.Differences.{AreDifferences}
use Rattle.dym_chain.specs.ChainInvariants.{chain_of}
use Rattle.dym_chain.proofs.DifferenceFacts.{no_differences}
use Rattle.dym_chain.proofs.Lawfuls.{fields_show}
use Rattle.dym_chain.proofs.Opens.{no_chain, opened, lawful_open, belongs_open, stands_open}
use Rattle.dym_chain.proofs.chain.Chain.open.Given as given
use Rattle.dym_chain.proofs.chain.Chain.open.Goals.{After-open}
use Rattle.dym_chain.proofs.chain.Chain.open.Goals as goal

view : (g : given.Over) (c : After-open g) → chain_of c.open.result.copies (g.K.LogKeep.meaning c.args.keep) ≡ no_chain (g.K.LogKeep.meaning c.args.keep).origin
view g c = opened c.requires.empty c.requires.made c.requires.idle c.open.ensures

pub invariant_of-result : goal.invariant_of-result
invariant_of-result g c =
    let origin = (g.K.LogKeep.meaning c.args.keep).origin in
    fields_show (no_chain origin) (view g (goal.at.invariant_of-result g c).After-open) (lawful_open origin) c.in-Ok.ensures.items c.in-Ok.ensures.capacity
    (subst (AreDifferences (no_chain origin).logs) (sym c.new.ensures.items) (no_differences (no_chain origin).logs))

pub returns-in-Ok-clause-belongs : goal.returns-in-Ok-clause-belongs
returns-in-Ok-clause-belongs g c v quota s =
    subst (Belongs v quota s) (sym (view g (goal.at.returns-in-Ok-clause-belongs g c).After-open)) (belongs_open v quota s (g.K.LogKeep.meaning c.args.keep).origin)

pub returns-in-Ok-clause-stands : goal.returns-in-Ok-clause-stands
returns-in-Ok-clause-stands g c = subst StandsForCopies (sym (view g (goal.at.returns-in-Ok-clause-stands g c).After-open)) (stands_open (g.K.LogKeep.meaning c.args.keep).origin)
