use Rattle.std.proofs.Common.{◌≡◌, ◌∙◌, length, refl, sym, ap, subst, arith}
use Rattle.dym_slots.specs.Meanings.{KeepMeaning}
use Rattle.dym_chain.specs.Keeps.{bytes_of}
use Rattle.dym_chain.specs.Copies.{ChainCopies, AreCopiesOf}
use Rattle.dym_chain.specs.AdoptedLogs.{AreEntriesOf}
use Rattle.dym_chain.specs.Chains.{ChainMeaning}
use Rattle.dym_chain.specs.ChainInvariants.{chain_of}
use Rattle.dym_chain.specs.Lawful.{IsLawful}
use Rattle.dym_chain.proofs.Opens.{tells, told_lawful, told_entries, told_times, belongs_lawful}
use Rattle.dym_chain.proofs.KeptLists.{are_kept}
use Rattle.dym_chain.proofs.Lawfuls.{stands, fields_show}
use Rattle.dym_chain.proofs.SaidLists.{IsPlace}
use Rattle.dym_chain.specs.Differences.{AreDifferences}
use Rattle.dym_chain.proofs.DifferenceFacts.{no_differences}
use Rattle.dym_chain.proofs.chain.Chain.adopt.Given as given
use Rattle.dym_chain.proofs.chain.Chain.adopt.Goals.{After-read-ghost_copies}
use Rattle.dym_chain.proofs.chain.Chain.adopt.Goals as goal

pub read-ghost_copies-requires : goal.read-ghost_copies-requires
read-ghost_copies-requires g c κs within =
    let same = c.read_entries-entries.ensures.keep in (
      within,
      subst (λ (k : KeepMeaning). (copies : ChainCopies) × AreCopiesOf (record { first = c.args.first; records = bytes_of k.records }) copies) (sym same)
          (tells c.args.first (bytes_of (g.K.LogKeep.meaning c.args.keep).records) c.requires.lawful),
    )

module _ (g : given.Over) (c : After-read-ghost_copies g) where
  abbrev keep : KeepMeaning
  keep = g.K.LogKeep.meaning c.read_entries-entries.new.keep

  abbrev chain : ChainMeaning
  chain = chain_of c.read-ghost_copies.result.copies keep

  same : keep ≡ g.K.LogKeep.meaning c.args.keep
  same = c.read_entries-entries.ensures.keep

  place : IsPlace c.args.first (length keep.records)
  place = subst (λ (k : KeepMeaning). IsPlace c.args.first (length k.records)) (sym same) (record { kept = c.requires.kept; none = c.requires.none; some = c.requires.some })

  law : IsLawful chain
  law = told_lawful keep c.args.first place c.read-ghost_copies.result.copies c.read-ghost_copies.ensures

  -- what the records say, which are those of the keep as it came
  entries : AreEntriesOf c.args.first (bytes_of (g.K.LogKeep.meaning c.args.keep).records) chain.base_logs chain.logs
  entries v logs is are =
      told_entries keep c.args.first place c.read-ghost_copies.result.copies c.read-ghost_copies.ensures v logs is (are ∙ ap (λ (k : KeepMeaning). bytes_of k.records) (sym same))

pub invariant_of-result : goal.invariant_of-result
invariant_of-result g c =
    let r = (goal.at.invariant_of-result g c).After-read-ghost_copies in
    let logs = (chain g r).logs in
    fields_show (chain g r) refl (law g r)
    (told_times (keep g r) c.args.first (place g r) c.read-ghost_copies.result.copies c.read-ghost_copies.ensures c.read_entries-entries.result.items
    (λ v logs is are. c.read_entries-entries.ensures.entries v logs is (are ∙ ap (λ (k : KeepMeaning). bytes_of k.records) (same g r))))
    (omega (arith, c.read_entries-entries.ensures.capacity, c.in-Ok.ensures.capacity))
    (subst (AreDifferences logs) (sym c.new.ensures.items) (no_differences logs))

pub returns-in-Ok-clause-entries : goal.returns-in-Ok-clause-entries
returns-in-Ok-clause-entries g c = entries g (goal.at.returns-in-Ok-clause-entries g c).After-read-ghost_copies

pub returns-in-Ok-clause-kept : goal.returns-in-Ok-clause-kept
returns-in-Ok-clause-kept g c =
    let r = (goal.at.returns-in-Ok-clause-kept g c).After-read-ghost_copies in
    are_kept (chain g r) (law g r)

pub returns-in-Ok-clause-stands : goal.returns-in-Ok-clause-stands
returns-in-Ok-clause-stands g c =
    let r = (goal.at.returns-in-Ok-clause-stands g c).After-read-ghost_copies in
    stands (chain g r) (law g r)

pub returns-in-Ok-clause-belongs : goal.returns-in-Ok-clause-belongs
returns-in-Ok-clause-belongs g c v quota s =
    let r = (goal.at.returns-in-Ok-clause-belongs g c).After-read-ghost_copies in
    belongs_lawful (chain g r) v quota s (law g r)
