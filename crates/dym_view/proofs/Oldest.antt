-- The oldest of kept logs: which records it is read from, and that they bring its copy.
use Rattle.std.proofs.Common.{◌≡◌, ℕ, ◌+◌, ◌-◌, ◌<◌, ◌≤◌, List, [], ◌∷◌, length, map, take, drop, get_or, refl, sym, ap, ◌∙◌, arith, length-append, Some}
use Rattle.std.specs.List.{AllByRecursion}
use Rattle.std.proofs.lemmas.List.{length-map, get_or-map}
use Rattle.dym_base.specs.BaseLogs.{oldest_depth}
use Rattle.dym_base.specs.Heaps.{Live}
use Rattle.dym_base.specs.Objects.{LogEntry, record_of}
use Rattle.dym_base.specs.Packed.{Logged, packed}
use Rattle.dym_base.specs.Recorded.{IsRecorded}
use Rattle.dym_base.specs.StandsFor.{StandsFor}
use Rattle.dym_heap.specs.RecordLoads.{HaveOneSetOfHandles}
use Rattle.dym_pack.specs.ParsedAreas.{OfLog}
use Rattle.dym_slots.specs.Meanings.{Numbered, no_record, record_at}
use Rattle.dym_chain.specs.Chains.{ChainMeaning, all_logs, log_at, no_entry, records_to}
use Rattle.dym_chain.specs.Keeps.{bytes_of}
use Rattle.dym_chain.specs.KeptRecords.{AreKeptRecords}
use Rattle.dym_chain.specs.Lawful.{IsLawful, logged_of}
use Rattle.dym_chain.specs.Loads.{HaveVersion}
use Rattle.dym_view.specs.LoadedHeaps.{AreLoaded}
use Rattle.dym_chain.proofs.Lawfuls.{at_place}
use Rattle.dym_chain.proofs.Places.{first_depth}
use Rattle.dym_chain.proofs.Restores.{target_recorded, part_version}
use Rattle.dym_view.proofs.Loadings.{loaded_is}
use Rattle.dym_view.specs.Commits.{oldest}

module _ (c : ChainMeaning) (kept : AreKeptRecords c) (some : 0 < length c.logs) where
  lawful : IsLawful c
  lawful = record {
    version = kept.version;
    records = kept.records;
    recorded = kept.recorded;
    list = kept.list;
    full = kept.full;
    follows = kept.follows;
    keeps = kept.keeps;
    base = kept.base;
  }

  -- as many records stand before that of the oldest log as its depth
  base_is : (log_at c.logs 0).depth ≡ length c.base_logs
  base_is = first_depth c.logs some ∙ sym kept.base

  as_many : length c.records ≡ length c.base_logs + length c.logs
  as_many =
      sym (length-map c.records (λ (r : Numbered). r.bytes))
      ∙ ap length kept.records
      ∙ length-map (all_logs c) (record_of kept.version)
      ∙ length-append c.base_logs c.logs

  pub inside : (log_at c.logs 0).depth + 1 ≤ length c.records
  inside = omega (arith, as_many, base_is, some)

  -- its record
  pub record_is : (record_at c.records (log_at c.logs 0).depth).bytes ≡ record_of kept.version (log_at c.logs 0)
  record_is =
      let place : ℕ = (log_at c.logs 0).depth in
      let there : place < length (all_logs c) = omega (arith, length-append c.base_logs c.logs, some, base_is) in
      let at : place ≡ length c.base_logs + 0 = omega (arith, base_is) in
      sym (get_or-map (λ (r : Numbered). r.bytes) c.records place no_record [] (omega (arith, inside)))
      ∙ ap (λ (l : List (List ℕ)). get_or l place []) kept.records
      ∙ get_or-map (record_of kept.version) (all_logs c) place no_entry [] there
      ∙ ap (λ b. record_of kept.version (log_at (all_logs c) b)) at
      ∙ ap (record_of kept.version) (at_place c 0)

  pub recorded_is : IsRecorded (logged_of kept.version (log_at c.logs 0))
  recorded_is = target_recorded c kept.version 1 lawful kept.records (omega arith) (omega (arith, some))

  -- what is true of each log with its bytes is true of it
  pub told_of : (rec : List ℕ) (P : Logged → Type 0) → rec ≡ (record_at c.records (log_at c.logs 0).depth).bytes → OfLog rec P
      → P (logged_of kept.version (log_at c.logs 0))
  told_of rec P is all = all (logged_of kept.version (log_at c.logs 0)) recorded_is (sym (is ∙ record_is))

  -- the records up to it have one version
  pub version_is : HaveVersion kept.version (take ((log_at c.logs 0).depth + 1) (bytes_of c.records))
  version_is = part_version c kept.version ((log_at c.logs 0).depth + 1) 0 kept.records

  same_records : (logs : List LogEntry) (records : List (List ℕ)) → 0 < length logs
      → take ((log_at logs 0).depth + 1) (drop (oldest_depth logs + 0 - (log_at logs 0).depth) records) ≡ take ((log_at logs 0).depth + 1) records
  same_records [] records some = absurd (omega arith)
  same_records (e ∷ es) records some = let none : e.depth + 0 - e.depth ≡ 0 = omega arith in ap (λ n. take (e.depth + 1) (drop n records)) none

  -- loaded into a heap with its handles they bring its copy
  pub live_is : (shaped live : Live) → HaveOneSetOfHandles shaped (log_at c.logs 0).copy
      → ((logs : List Logged) → AllByRecursion IsRecorded logs → map packed logs ≡ take ((log_at c.logs 0).depth + 1) (bytes_of c.records) → AreLoaded logs shaped live)
      → live ≡ (log_at c.logs 0).copy
  live_is shaped live handles loaded =
      let stands : StandsFor (records_to c 0) (log_at c.logs 0).copy = kept.stands 0 some in
      loaded_is stands.logs (log_at c.logs 0).copy shaped live stands.stand handles
      (loaded stands.logs stands.recorded (stands.are ∙ same_records c.logs (bytes_of c.records) some))

-- it is the first of the logs
pub oldest_is : (logs : List LogEntry) → 0 < length logs → oldest logs ≡ Some (log_at logs 0)
oldest_is [] some = absurd (omega arith)
oldest_is (e ∷ es) some = refl
