-- What is saved is a file, and comes back.
use Rattle.std.proofs.Common.{◌≡◌, ℕ, ◌+◌, ◌<◌, ◌≤◌, ◌⊎◌, List, [], ◌∷◌, length, get_or, map, refl, sym, ap, subst, ◌∙◌, arith, inl, inr}
use Rattle.std.specs.List.{AllByRecursion, flat_map}
use Rattle.std.proofs.lemmas.List.{append-nil, length-append, length-map}
use Rattle.dym_base.specs.BaseLogs.{oldest_depth}
use Rattle.dym_base.specs.Files.{FileHead, IsFileHead, head_of, framed}
use Rattle.dym_base.specs.Heaps.{held}
use Rattle.dym_base.specs.LawfulLists.{IsRecordOf, IsLawfulList}
use Rattle.dym_base.specs.Objects.{LogEntry, record_of, kind_of}
use Rattle.dym_base.specs.Packed.{kind_byte}
use Rattle.dym_base.specs.Recorded.{IsRecorded}
use Rattle.dym_base.specs.declared.limits.TheConstants.{MOST_DEPTH}
use Rattle.dym_base.specs.declared.command.Version.{Version}
use Rattle.dym_base.specs.declared.command.Version.TheVariants.{One, Two}
use Rattle.dym_base.specs.declared.command.Kind.{Kind}
use Rattle.dym_base.specs.declared.command.Kind.TheVariants.{Full, Inc}
use Rattle.dym_pack.proofs.Slices.{first_byte}
use Rattle.dym_heap.specs.Meaning.{HeapMeaning}
use Rattle.dym_chain.specs.AdoptedLogs.{AreEntriesOf, RecordsSayTheirLogs}
use Rattle.dym_chain.specs.Chains.{ChainMeaning, all_logs}
use Rattle.dym_chain.specs.Keeps.{bytes_of}
use Rattle.dym_chain.specs.Lawful.{logged_of}
use Rattle.dym_ckpt.specs.Laws.{SavedIsFile, SavedComesBack}
use Rattle.dym_ckpt.specs.SavedFiles.{MayBeSaved, file_of_logs, framed_from}
use Rattle.dym_ckpt.proofs.FileReadings.{reads_to}
use Rattle.dym_ckpt.proofs.Lists.{nothing_lawful}
use Rattle.dym_ckpt.proofs.OneReading.{one_reading}
use Rattle.dym_ckpt.proofs.SavedFiles.{count_of, file_parts}

-- ---- the version of records

kind_byte_same : (v w : Version) (k : Kind) → kind_byte v k ≡ kind_byte w k → v ≡ w
kind_byte_same One One k same = refl
kind_byte_same Two Two k same = refl
kind_byte_same One Two Full same = absurd (omega (arith, same))
kind_byte_same One Two Inc same = absurd (omega (arith, same))
kind_byte_same Two One Full same = absurd (omega (arith, same))
kind_byte_same Two One Inc same = absurd (omega (arith, same))

record_version : (v w : Version) (e : LogEntry) → record_of v e ≡ record_of w e → v ≡ w
record_version v w e same =
    kind_byte_same v w (kind_of e) (sym (first_byte (logged_of v e)) ∙ ap (λ bs. get_or bs 0 0) same ∙ first_byte (logged_of w e))

one_version : (v w : Version) (logs : List LogEntry) → map (record_of v) logs ≡ map (record_of w) logs → (v ≡ w) ⊎ (logs ≡ [])
one_version v w [] same = inr refl
one_version v w (e ∷ logs) same = inl (record_version v w e (ap (λ (rs : List (List ℕ)). get_or rs 0 []) same))

-- ---- the records

each_record : (v : Version) (quota : ℕ) (logs : List LogEntry) → AllByRecursion (λ (e : LogEntry). IsRecorded (logged_of v e)) logs → AllByRecursion (λ (e : LogEntry). held e.copy ≤ quota) logs → AllByRecursion (IsRecordOf v quota) (map (record_of v) logs)
each_record v quota [] recorded within = tt
each_record v quota (e ∷ logs) recorded within =
    ((logged_of v e, record { recorded = recorded.0; version = refl; within = within.0 }, refl), each_record v quota logs recorded.1 within.1)

-- what is asked of the records of a file
record AreGood (v : Version) (quota d : ℕ) (records : List (List ℕ)) : Type 0 where
  each : AllByRecursion (IsRecordOf v quota) records
  lawful : IsLawfulList v d records

are_good : (name : List ℕ) (quota : ℕ) (v : Version) (c : ChainMeaning) → MayBeSaved name quota v c → AreGood v quota (oldest_depth c.logs) (bytes_of c.records)
are_good name quota v c may =
    let w = may.kept.version in
    let good : AreGood w quota (oldest_depth c.logs) (bytes_of c.records) = record {
      each = subst (AllByRecursion (IsRecordOf w quota)) (sym may.kept.records) (each_record w quota (all_logs c) may.kept.recorded may.within);
      lawful = may.kept.lawful;
    } in
    elim (one_version w v (all_logs c) (sym may.kept.records ∙ may.are)) as (λ _. AreGood v quota (oldest_depth c.logs) (bytes_of c.records)) [
      | inl same ↦ subst (λ x. AreGood x quota (oldest_depth c.logs) (bytes_of c.records)) same good
      | inr none ↦ subst (AreGood v quota (oldest_depth c.logs)) (sym (may.are ∙ ap (map (record_of v)) none)) (record { each = tt; lawful = nothing_lawful v (oldest_depth c.logs) })
    ]

-- ---- the header

oldest_shallow : (logs : List LogEntry) → AllByRecursion (λ (e : LogEntry). e.depth ≤ MOST_DEPTH) logs → oldest_depth logs ≤ MOST_DEPTH
oldest_shallow [] each = omega arith
oldest_shallow (e ∷ logs) each = each.0

depth_below : (logs : List LogEntry) (n : ℕ) → n ≡ oldest_depth logs → 0 < n + length logs → oldest_depth logs < n + length logs
depth_below [] n is some = absurd (omega (arith, is, some))
depth_below (e ∷ logs) n is some = omega (arith, is)

good_head : (name : List ℕ) (quota : ℕ) (v : Version) (c : ChainMeaning) → MayBeSaved name quota v c → IsFileHead (head_of name quota v c.base_logs c.logs)
good_head name quota v c may =
    let count = length-append c.base_logs c.logs in
    let shallow = oldest_shallow c.logs may.kept.list.1 in
    record {
      named = may.named;
      some_quota = may.some_quota;
      within = may.most;
      few = omega (arith, count, may.kept.base, shallow, may.kept.list.0);
      shallow = shallow;
      kept = omega (arith, count, may.kept.base, may.kept.list.0);
      none = λ is. omega (arith, count, may.kept.base, is);
      some = λ some. omega (arith, count, depth_below c.logs (length c.base_logs) may.kept.base (omega (arith, count, some)));
    }

-- ---- the file

pub saved_is_file : SavedIsFile
saved_is_file name quota v c may =
    let head = head_of name quota v c.base_logs c.logs in
    let records = bytes_of c.records in
    let good = are_good name quota v c may in
    let many : length records ≡ head.count = length-map c.records (λ r. r.bytes) ∙ count_of v c may.are in
    record {
      read = reads_to (file_of_logs name quota v c) (framed_from 0 c.records) head records [] (good_head name quota v c may) (omega (arith, many)) good.each good.lawful
          (file_parts name quota v c may.are) (sym (append-nil (flat_map framed records)));
      whole = many;
    }

pub saved_comes_back : RecordsSayTheirLogs → SavedComesBack
saved_comes_back say name quota v c loaded may is =
    let same = one_reading (file_of_logs name quota v c) is.head (head_of name quota v c.base_logs c.logs) is.records (bytes_of c.records) is.file (saved_is_file name quota v c may) in
    let entries : AreEntriesOf (oldest_depth c.logs) (bytes_of c.records) loaded.chain.base_logs loaded.chain.logs
    = subst (λ d. AreEntriesOf d (bytes_of c.records) loaded.chain.base_logs loaded.chain.logs) (ap (λ (h : FileHead). h.depth) same.0)
    (subst (λ rs. AreEntriesOf is.head.depth rs loaded.chain.base_logs loaded.chain.logs) same.1 is.entries) in
    let said = say c loaded.chain.base_logs loaded.chain.logs may.kept entries in
    record {
      name_is = is.name ∙ ap (λ (h : FileHead). h.name) same.0;
      quota_is = ap (λ (h : HeapMeaning). h.quota) is.heap ∙ ap (λ (h : FileHead). h.quota) same.0;
      version_is = ap (λ (h : HeapMeaning). h.version) is.heap ∙ ap (λ (h : FileHead). h.version) same.0;
      records_are = is.are ∙ same.1;
      below_is = said.0;
      logs_are = said.1;
    }
