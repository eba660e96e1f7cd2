-- A chain with no log, and one whose logs are read from its records.
use Rattle.std.proofs.Common.{◌≡◌, ℕ, ◌≤◌, None, List, [], length, refl, sym, ap, subst, ◌∙◌, arith, map, take, drop}
use Rattle.dym_base.specs.Heaps.{HeapState, held}
use Rattle.dym_base.specs.Origins.{Origin}
use Rattle.dym_base.specs.declared.command.Version.{Version}
use Rattle.dym_base.specs.declared.command.Version.TheVariants.{One}
use Rattle.dym_slots.specs.Meanings.{KeepMeaning}
use Rattle.dym_chain.specs.Chains.{ChainMeaning, Belongs, StandsForCopies, all_logs, EachKeeps, KeepsFromNewest}
use Rattle.dym_chain.specs.Lawful.{IsLawful, entry_of}
use Rattle.dym_chain.specs.Copies.{ChainCopies, AreCopiesOf, copies_of}
use Rattle.dym_chain.specs.ChainInvariants.{chain_of}
use Rattle.dym_chain.specs.declared.entry.Entry.{Entry}
use Rattle.std.specs.List.{AllByRecursion}
use Rattle.dym_base.specs.LawfulLists.{IsRecordOf}
use Rattle.dym_base.specs.Objects.{LogEntry, newest}
use Rattle.dym_base.proofs.Runs.{all_drop}
use Rattle.std.proofs.lemmas.List.{drop_at}
use Rattle.dym_chain.specs.AdoptedLogs.{AreEntriesOf, AreKeptTimes, AreLawful, entries_of}
use Rattle.dym_chain.specs.Keeps.{bytes_of}
use Rattle.dym_chain.proofs.OneReading.{entries_same}
use Rattle.dym_chain.proofs.Places.{keeps_drop}
use Rattle.dym_chain.proofs.SaidLists.{IsPlace, InVersion, in_version, lawful_told}

abbrev pub no_logs : ChainCopies
no_logs = record { base_logs = []; logs = [] }

abbrev pub no_chain : Origin → ChainMeaning
no_chain origin = record { base_logs = []; logs = []; records = []; made = 0; lifted = None; origin = origin }

pub opened : {keep : KeepMeaning} {copies : ChainCopies} → keep.records ≡ [] → keep.made ≡ 0 → keep.lifted ≡ None → copies ≡ no_logs → chain_of copies keep ≡ no_chain keep.origin
opened {keep = keep} records made idle told_is =
    λ i. record { base_logs = (told_is i).base_logs; logs = (told_is i).logs; records = records i; made = made i; lifted = idle i; origin = keep.origin }

pub lawful_open : (origin : Origin) → IsLawful (no_chain origin)
lawful_open origin = record {
  version = One;
  records = refl;
  recorded = tt;
  list = (omega arith, tt, tt);
  full = refl;
  follows = tt;
  keeps = tt;
  base = refl;
}

pub belongs_open : (v : Version) (quota : ℕ) (s : HeapState) (origin : Origin) → Belongs v quota s (no_chain origin)
belongs_open v quota s origin = record { records = refl; untouched = tt; keeps = tt; within = tt }

pub stands_open : (origin : Origin) → StandsForCopies (no_chain origin)
stands_open origin k within = absurd (omega (arith, within))

-- ---- a chain whose logs are read from its records

-- records that are a lawful list say something
pub tells : (first : ℕ) (records : List (List ℕ)) → AreLawful first records → (copies : ChainCopies) × AreCopiesOf (record { first = first; records = records }) copies
tells first records is = (copies_of first is.1.0, (is.0, is.1.0, is.1.1, is.1.2, refl))

module _ (keep : KeepMeaning) (first : ℕ) (place : IsPlace first (length keep.records)) (copies : ChainCopies) (by : AreCopiesOf (record { first = first; records = bytes_of keep.records }) copies) where
  pub told_lawful : IsLawful (chain_of copies keep)
  told_lawful = subst (λ (t : ChainCopies). IsLawful (chain_of t keep)) (sym by.4) (lawful_told keep first by.0 by.1 by.2 by.3 place)

  pub told_entries : AreEntriesOf first (bytes_of keep.records) copies.base_logs copies.logs
  told_entries v logs is are =
      let same : entries_of by.1 ≡ entries_of logs = entries_same by.1 logs 0 [] [] by.2.recorded is.recorded (by.3 ∙ sym are) (λ q. refl) in
      (ap (λ (t : ChainCopies). t.base_logs) by.4 ∙ ap (take first) same, ap (λ (t : ChainCopies). t.logs) by.4 ∙ ap (drop first) same)

  pub told_times : (items : List Entry) → AreKeptTimes first (bytes_of keep.records) items → items ≡ map entry_of copies.logs
  told_times items read = read by.0 by.1 by.2 by.3 ∙ ap (λ (t : ChainCopies). map entry_of t.logs) (sym by.4)

-- a lawful chain of records of a version within a quota belongs to each heap whose live chunks are its newest copy's where they
-- weren't touched
pub belongs_lawful : (c : ChainMeaning) (v : Version) (quota : ℕ) (s : HeapState) → IsLawful c → AllByRecursion (IsRecordOf v quota) (bytes_of c.records) → KeepsFromNewest s (newest c.logs) → Belongs v quota s c
belongs_lawful c v quota s law each untouched =
    let is : InVersion law.version v quota (all_logs c) = in_version law.version v quota (all_logs c) law.recorded (subst (AllByRecursion (IsRecordOf v quota)) law.records each) in
    let kept : drop (length c.base_logs) (all_logs c) ≡ c.logs = drop_at c.base_logs c.logs (length c.base_logs) refl in
    record {
      records = law.records ∙ is.same;
      untouched = untouched;
      keeps = subst EachKeeps kept (keeps_drop (length c.base_logs) (all_logs c) law.keeps);
      within = subst (AllByRecursion (λ (e : LogEntry). held e.copy ≤ quota)) kept (all_drop (λ (e : LogEntry). held e.copy ≤ quota) (length c.base_logs) (all_logs c) is.within);
    }
