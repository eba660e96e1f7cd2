-- What a lawful list of records says is a chain, and what the records of a chain say are its logs.
use Rattle.std.proofs.Common.{◌≡◌, ℕ, zero, suc, ◌+◌, ◌<◌, ◌≤◌, inl, inr, List, [], ◌∷◌, ◌++◌, length, map, take, drop, refl, sym, ap, subst, ◌∙◌, arith, ◌⊎◌, Bool, true, false, cond, ◌==◌, Option, Some, None}
use Rattle.std.specs.List.{AllByRecursion}
use Rattle.std.proofs.lemmas.Bool.{cases_lt}
use Rattle.std.proofs.lemmas.List.{length-take, length-drop, length-map, take-append-drop, take_at, drop_at, take-map, drop-map, map-append}
use Rattle.dym_base.specs.BaseLogs.{oldest_depth}
use Rattle.dym_base.specs.Heaps.{held, Live, Touched, HeapState}
use Rattle.dym_base.specs.LawfulLists as lawful
use Rattle.dym_base.specs.LawfulLists.{IsRecordOf, depth_after, depths_from}
use Rattle.dym_base.specs.Objects.{LogEntry, record_of, kind_of, newest}
use Rattle.dym_base.specs.Packed.{Logged, packed, packs_by}
use Rattle.dym_base.specs.Recorded.{IsRecorded}
use Rattle.dym_base.specs.RunLaws.{EachFollows, Follows, FirstFollows}
use Rattle.dym_base.specs.declared.command.Version.{Version}
use Rattle.dym_base.specs.declared.command.Kind.TheVariants.{Inc, Full}
use Rattle.dym_base.proofs.Runs.{all_drop, follows_drop}
use Rattle.dym_slots.specs.Meanings.{Numbered, KeepMeaning}
use Rattle.dym_chain.specs.AdoptedLogs.{run_to, entries_from, entries_of, entry_in, as_said, RecordsSayTheirLogs, ReadLogsBelong}
use Rattle.dym_chain.specs.Chains.{EachKeeps, log_at, ChainMeaning, all_logs, KeepsFromBefore, FirstKeeps, KeepsFromNewest}
use Rattle.dym_chain.specs.Keeps.{bytes_of}
use Rattle.dym_chain.specs.Lawful.{IsLawful, logged_of}
use Rattle.dym_chain.specs.Copies.{copies_of}
use Rattle.dym_chain.specs.ChainInvariants.{chain_of}
use Rattle.dym_chain.proofs.Moves.{oldest_drop}
use Rattle.dym_chain.proofs.Lawfuls.{version_same, held_same, packed_of}
use Rattle.dym_chain.proofs.Said.{run_first, said_from, record_is, recorded_is}
use Rattle.std.specs.FinMap.{get}
use Rattle.std.specs.FinSet as set
use Rattle.dym_base.specs.StandsFor.{LogsStandFor}
use Rattle.dym_base.proofs.Standing.{full_stands_alone}
use Rattle.dym_pack.specs.Areas.{found_by}
use Rattle.dym_chain.specs.KeptRecords.{AreKeptRecords}
use Rattle.dym_chain.proofs.KeptLists.{depth_is, lawful_logs}
use Rattle.dym_chain.proofs.Places.{keeps_drop}
use Rattle.dym_chain.proofs.SameBytes.{same_bytes}
use Rattle.dym_chain.proofs.Stands.{not_inc, kind_full, kind_inc, stands_push, stood_is}

pub said_count : (n : ℕ) (run : List Logged) (logs : List Logged) → length (entries_from n run logs) ≡ length logs
said_count n run [] = refl
said_count n run (log ∷ logs) = ap suc (said_count (depth_after n log.kind) (run_to log.kind run log) logs)

-- ---- depths

pub said_shallow : (n : ℕ) (run : List Logged) (logs : List Logged) → AllByRecursion (λ depth. depth ≤ 31) (depths_from n logs) → AllByRecursion (λ (e : LogEntry). e.depth ≤ 31) (entries_from n run logs)
said_shallow n run [] all = tt
said_shallow n run (log ∷ logs) all = (all.0, said_shallow (depth_after n log.kind) (run_to log.kind run log) logs all.1)

-- behind a log of depth n, where the next logs are incremental, each is one deeper
deeper_at : (n : ℕ) (run : List Logged) (logs : List Logged) (k : ℕ) → k < length logs → AllByRecursion (λ (l : Logged). l.kind ≡ Inc) (take (suc k) logs) → (log_at (entries_from n run logs) k).depth ≡ n + suc k
deeper_at n run [] k within incs = absurd (omega (arith, within))
deeper_at n run (log ∷ logs) zero within incs = ap (depth_after n) incs.0 ∙ (let one : suc n ≡ n + 1 = omega arith in one)
deeper_at n run (log ∷ logs) (suc k) within incs =
    let here : depth_after n log.kind ≡ suc n = ap (depth_after n) incs.0 in
    let rest = deeper_at (depth_after n log.kind) (run_to log.kind run log) logs k (omega (arith, within)) incs.1 in
    omega (arith, here, rest)

pub first_depth : (logs : List Logged) (k : ℕ) → k < length logs → lawful.StartsFull logs → AllByRecursion (λ (l : Logged). l.kind ≡ Inc) (take k (drop 1 logs)) → (log_at (entries_of logs) k).depth ≡ k
first_depth [] k within full incs = absurd (omega (arith, within))
first_depth (log ∷ logs) zero within full incs = ap (depth_after 0) full
first_depth (log ∷ logs) (suc k) within full incs =
    let here : depth_after 0 log.kind ≡ 0 = ap (depth_after 0) full in
    let rest = deeper_at (depth_after 0 log.kind) (run_to log.kind [] log) logs k (omega (arith, within)) incs in
    omega (arith, here, rest)

-- ---- all that is said

pub record IsSaid (v : Version) (logs : List Logged) (es : List LogEntry) : Type 0 where
  pub records : map (record_of v) es ≡ map packed logs
  pub recorded : AllByRecursion (λ (e : LogEntry). IsRecorded (logged_of v e)) es
  pub full : oldest_depth es ≡ 0
  pub follows : EachFollows es
  pub keeps : EachKeeps es

pub read_records : (v : Version) (d : ℕ) (logs : List Logged) → lawful.IsLawful v d logs → IsSaid v logs (entries_of logs)
read_records v d [] is = record { records = refl; recorded = tt; full = refl; follows = tt; keeps = tt }
read_records v d (log ∷ logs) is =
    let n : ℕ = depth_after 0 log.kind in
    let run : List Logged = run_to log.kind [] log in
    let first = run_first v log log.kind refl is.full is.recorded.0 is.version.0 in
    let rest = said_from v n run log logs first is.recorded.1 is.version.1 is.follow.0 is.follow.1 in
    record {
      records = λ i. record_is v n run log first i ∷ rest.records i;
      recorded = (recorded_is v n run log first, rest.recorded);
      full = ap (depth_after 0) is.full;
      follows = (rest.first_follows, rest.follows);
      keeps = (rest.first_keeps, rest.keeps);
    }

-- ---- the chain

-- how many records there may be behind the first place that is kept
pub record IsPlace (first count : ℕ) : Type 0 where
  pub kept : count ≤ first + 256
  pub none : count ≡ 0 → first ≡ 0
  pub some : 0 < count → first < count

pub place_within : (first count : ℕ) → IsPlace first count → first ≤ count
place_within first count is =
    elim (cases_lt 0 count) as (λ _. first ≤ count) [
      | inl some ↦ (let less = is.some some in omega (arith, less))
      | inr none ↦ (let at : count ≡ 0 = omega (arith, none) in let start = is.none at in omega (arith, start))
    ]

drop_none : (n : ℕ) (es : List LogEntry) → length es ≡ 0 → oldest_depth (drop n es) ≡ 0
drop_none zero [] none = refl
drop_none (suc n) [] none = refl
drop_none n (e ∷ es) none = absurd (omega (arith, none))

module _ (keep : KeepMeaning) (first : ℕ) (v : Version) (logs : List Logged) (is : lawful.IsLawful v first logs) (are : map packed logs ≡ bytes_of keep.records) (place : IsPlace first (length keep.records)) where
  abbrev all : List LogEntry
  all = entries_of logs

  pub count : length all ≡ length keep.records
  count = said_count 0 [] logs ∙ sym (length-map logs packed) ∙ ap length are ∙ length-map keep.records (λ (r : Numbered). r.bytes)

  within : first ≤ length all
  within = (let low = place_within first (length keep.records) place in let n = count in omega (arith, low, n))

  all_is : take first all ++ drop first all ≡ all
  all_is = take-append-drop first all

  base : length (take first all) ≡ oldest_depth (drop first all)
  base =
      let long : length (take first all) ≡ first = length-take first all ∙ (let w = within in let least : Rattle.std.specs.Prelude.min first (length all) ≡ first = omega arith in least) in
      elim (cases_lt 0 (length keep.records)) as (λ _. length (take first all) ≡ oldest_depth (drop first all)) [
        | inl some ↦
            let more : first < length all = (let b = place.some some in let n = count in omega (arith, b, n)) in
            let there : first < length logs = (let n = said_count 0 [] logs in omega (arith, n, more)) in
            long ∙ sym (oldest_drop first all more ∙ first_depth logs first there is.full is.base)
        | inr none ↦
            let at : length keep.records ≡ 0 = omega (arith, none) in
            long ∙ place.none at ∙ sym (drop_none first all (count ∙ at))
      ]

  pub lawful_told : IsLawful (chain_of (copies_of first logs) keep)
  lawful_told =
      let whole = read_records v first logs is in
      let few : length (drop first all) ≤ 256 = (let n = count in let k = place.kept in let left = length-drop first all in omega (arith, n, k, left)) in
      let back = sym all_is in
      record {
        version = v;
        records = sym are ∙ sym whole.records ∙ ap (map (record_of v)) back;
        recorded = subst (AllByRecursion (λ (e : LogEntry). IsRecorded (logged_of v e))) back whole.recorded;
        list = (few, all_drop (λ (e : LogEntry). e.depth ≤ 31) first all (said_shallow 0 [] logs is.shallow), follows_drop first all whole.follows);
        full = ap oldest_depth all_is ∙ whole.full;
        follows = subst EachFollows back whole.follows;
        keeps = subst EachKeeps back whole.keeps;
        base = base;
      }

-- ---- belonging

pub record InVersion (v w : Version) (quota : ℕ) (es : List LogEntry) : Type 0 where
  pub same : map (record_of v) es ≡ map (record_of w) es
  pub within : AllByRecursion (λ (e : LogEntry). held e.copy ≤ quota) es

pub in_version : (v w : Version) (quota : ℕ) (es : List LogEntry) → AllByRecursion (λ (e : LogEntry). IsRecorded (logged_of v e)) es → AllByRecursion (IsRecordOf w quota) (map (record_of v) es) → InVersion v w quota es
in_version v w quota [] recorded each = record { same = refl; within = tt }
in_version v w quota (e ∷ es) recorded each =
    let log : Logged = each.0.0 in
    let of = each.0.1 in
    let bytes : packed log ≡ record_of v e = each.0.2 in
    let rest = in_version v w quota es recorded.1 each.1 in
    let version : v ≡ w = version_same (logged_of v e) log (sym bytes) ∙ of.version in
    let few : held e.copy ≡ held log.copy = held_same (logged_of v e) log recorded.0 of.recorded (sym bytes) in
    record {
      same = λ i. record_of (version i) e ∷ rest.same i;
      within = (subst (λ n. n ≤ quota) (sym few) of.within, rest.within);
    }

-- ---- what the records of a chain say are its logs

found_is : (b : Bool) (touched : Touched) → found_by (cond b Full Inc) touched ≡ cond b set.empty touched
found_is true touched = refl
found_is false touched = refl

-- one log, whose copy the logs up to it stand for
entry_is : (v : Version) (f : LogEntry) (n : ℕ) (run : List Logged) → n ≡ f.depth → LogsStandFor run f.copy → entry_in n run (logged_of v f) ≡ as_said f
entry_is v f n run depth stand =
    λ i. record { time = f.time; depth = depth i; copy = stood_is run f.copy stand i; found = found_is (f.depth == 0) f.found i }

run_stands : (v : Version) (e f : LogEntry) (run : List Logged) → Follows e f → KeepsFromBefore e f → LogsStandFor run e.copy → LogsStandFor (run_to (kind_of f) run (logged_of v f)) f.copy
run_stands v e f run follows keeps stand =
    elim follows.1 as (λ _. LogsStandFor (run_to (kind_of f) run (logged_of v f)) f.copy) [
      | inl none ↦ subst (λ d. LogsStandFor (run_to d run (logged_of v f)) f.copy) (sym (kind_full f none)) (full_stands_alone (logged_of v f) (kind_full f none))
      | inr one ↦ subst (λ d. LogsStandFor (run_to d run (logged_of v f)) f.copy) (sym (kind_inc f e.depth one))
          (stands_push run e.copy (logged_of v f) stand (kind_inc f e.depth one) (keeps (let deep : 0 < f.depth = omega (Rattle.std.proofs.Common.arith, one) in deep)))
    ]

again_from : (v : Version) (e : LogEntry) (run : List Logged) (es : List LogEntry) → LogsStandFor run e.copy → FirstFollows e es → EachFollows es → FirstKeeps e es → EachKeeps es → entries_from e.depth run (map (logged_of v) es) ≡ map as_said es
again_from v e run [] stand first follows keeps each = refl
again_from v e run (f ∷ es) stand first follows keeps each =
    let depth : depth_after e.depth (kind_of f) ≡ f.depth = depth_is f e.depth first.1 in
    let longer : List Logged = run_to (kind_of f) run (logged_of v f) in
    let stands : LogsStandFor longer f.copy = run_stands v e f run first keeps stand in
    let rest : entries_from (depth_after e.depth (kind_of f)) longer (map (logged_of v) es) ≡ map as_said es =
    ap (λ n. entries_from n longer (map (logged_of v) es)) depth ∙ again_from v f longer es stands follows.0 follows.1 each.0 each.1 in
    λ i. entry_is v f (depth_after e.depth (kind_of f)) longer depth stands i ∷ rest i

pub again : (v : Version) (es : List LogEntry) → oldest_depth es ≡ 0 → EachFollows es → EachKeeps es → entries_of (map (logged_of v) es) ≡ map as_said es
again v [] full follows keeps = refl
again v (e ∷ es) full follows keeps =
    let kind : kind_of e ≡ Full = kind_full e full in
    let depth : depth_after 0 (kind_of e) ≡ e.depth = ap (depth_after 0) kind ∙ sym full in
    let run : List Logged = run_to (kind_of e) [] (logged_of v e) in
    let stands : LogsStandFor run e.copy = subst (λ d. LogsStandFor (run_to d [] (logged_of v e)) e.copy) (sym kind) (full_stands_alone (logged_of v e) kind) in
    let rest : entries_from (depth_after 0 (kind_of e)) run (map (logged_of v) es) ≡ map as_said es =
    ap (λ n. entries_from n run (map (logged_of v) es)) depth ∙ again_from v e run es stands follows.0 follows.1 keeps.0 keeps.1 in
    λ i. entry_is v e (depth_after 0 (kind_of e)) run depth stands i ∷ rest i

-- ---- kept logs

abbrev lawful_of : (c : ChainMeaning) → AreKeptRecords c → IsLawful c
lawful_of c kept = record {
  version = kept.version;
  records = kept.records;
  recorded = kept.recorded;
  list = kept.list;
  full = kept.full;
  follows = kept.follows;
  keeps = kept.keeps;
  base = kept.base;
}

pub say_their_logs : RecordsSayTheirLogs
say_their_logs c base_logs logs kept are =
    let v : Version = kept.version in
    let is = are v (map (logged_of v) (all_logs c)) (lawful_logs c (lawful_of c kept)) (packed_of v (all_logs c) ∙ sym kept.records) in
    let read_records : entries_of (map (logged_of v) (all_logs c)) ≡ map as_said (all_logs c) = again v (all_logs c) kept.full kept.follows kept.keeps in
    let first : take (oldest_depth c.logs) (all_logs c) ≡ c.base_logs = take_at c.base_logs c.logs (oldest_depth c.logs) kept.base in
    let rest : drop (oldest_depth c.logs) (all_logs c) ≡ c.logs = drop_at c.base_logs c.logs (oldest_depth c.logs) kept.base in (
      is.0 ∙ ap (take (oldest_depth c.logs)) read_records ∙ take-map as_said (oldest_depth c.logs) (all_logs c) ∙ ap (map as_said) first,
      is.1 ∙ ap (drop (oldest_depth c.logs)) read_records ∙ drop-map as_said (oldest_depth c.logs) (all_logs c) ∙ ap (map as_said) rest,
    )

-- ---- what is read belongs to the heap to which the logs belonged

packs_said : (b : Bool) (copy : Live) (found : Touched) (q : ℕ) → packs_by (cond b Full Inc) copy (cond b set.empty found) q ≡ packs_by (cond b Full Inc) copy found q
packs_said true copy found q = refl
packs_said false copy found q = refl

found_said : (b : Bool) (found : Touched) (q : ℕ) → cond b Full Inc ≡ Inc → set.contains (cond b set.empty found) q ≡ set.contains found q
found_said true found q inc = absurd (not_inc inc)
found_said false found q inc = refl

record_said : (v : Version) (e : LogEntry) → record_of v (as_said e) ≡ record_of v e
record_said v e = same_bytes (logged_of v (as_said e)) (logged_of v e) (record {
  version = refl;
  kind = refl;
  time = refl;
  handles = λ q. refl;
  found = λ inc q. found_said (e.depth == 0) e.found q inc;
  chunks = λ q. ap (λ b. cond b (get e.copy q) None) (packs_said (e.depth == 0) e.copy e.found q);
})

records_said : (v : Version) (es : List LogEntry) → map (record_of v) (map as_said es) ≡ map (record_of v) es
records_said v [] = refl
records_said v (e ∷ es) = λ i. record_said v e i ∷ records_said v es i

newest_said : (s : HeapState) (es : List LogEntry) → KeepsFromNewest s (newest es) → KeepsFromNewest s (newest (map as_said es))
newest_said s [] keeps = tt
newest_said s (e ∷ []) keeps = keeps
newest_said s (e ∷ f ∷ es) keeps = newest_said s (f ∷ es) keeps

within_said : (quota : ℕ) (es : List LogEntry) → AllByRecursion (λ (e : LogEntry). held e.copy ≤ quota) es → AllByRecursion (λ (e : LogEntry). held e.copy ≤ quota) (map as_said es)
within_said quota [] small = tt
within_said quota (e ∷ es) small = (small.0, within_said quota es small.1)

pub read_logs_belong : ReadLogsBelong
read_logs_belong v quota s c d kept also same are belongs =
    let is = say_their_logs c d.base_logs d.logs kept are in
    let all : all_logs d ≡ map as_said (all_logs c) = (λ i. is.0 i ++ is.1 i) ∙ sym (map-append as_said c.base_logs c.logs) in
    record {
      records = ap bytes_of same ∙ belongs.records ∙ sym (records_said v (all_logs c)) ∙ ap (map (record_of v)) (sym all);
      untouched = subst (λ (es : List LogEntry). KeepsFromNewest s (newest es)) (sym is.1) (newest_said s c.logs belongs.untouched);
      keeps = subst EachKeeps (drop_at d.base_logs d.logs (length d.base_logs) refl) (keeps_drop (length d.base_logs) (all_logs d) also.keeps);
      within = subst (AllByRecursion (λ (e : LogEntry). held e.copy ≤ quota)) (sym is.1) (within_said quota c.logs belongs.within);
    }
