-- The fields of a chain and a heap as a log is restored.
use Rattle.std.proofs.Common.{◌≡◌, ℕ, ◌+◌, ◌-◌, ◌<◌, ◌≤◌, true, unwrap_or, Option, Some, None, List, [], ◌∷◌, length, map, take, drop, get_or, refl, sym, ap, subst, ◌∙◌, arith, length-append}
use Rattle.std.specs.List.{AllByRecursion}
use Rattle.std.specs.FinSet as set
use Rattle.std.proofs.lemmas.List.{length-take, take-map, drop-map, get_or-take, get_or-map}
use Rattle.std.proofs.lemmas.List.Elements.{All-from_recursion}
use Rattle.std.specs.FinMap.{get, contains_key}
use Rattle.dym_base.specs.Heaps.{HeapState, held}
use Rattle.dym_base.specs.Objects.{LogEntry, record_of, newest, reached, restore, restore_to}
use Rattle.dym_base.specs.Packed.{Logged, packed}
use Rattle.dym_base.specs.StandsFor.{LogsStandFor}
use Rattle.dym_base.specs.declared.command.Version.{Version}
use Rattle.dym_base.specs.Recorded.{IsRecorded}
use Rattle.dym_pack.specs.ParsedAreas.{OfLog}
use Rattle.dym_heap.specs.Fetches.{heap_chunk, is_unmodified, IsReshaped, fetched}
use Rattle.dym_heap.specs.Meaning.{HeapMeaning}
use Rattle.dym_region.specs.declared.segment.SegmentId.{SegmentId}
use Rattle.dym_slots.specs.Meanings.{Numbered, KeepMeaning, no_record, record_at, up_to}
use Rattle.dym_chain.specs.Keeps.{bytes_of}
use Rattle.dym_chain.specs.Chains.{ChainMeaning, Belongs, all_logs, no_entry, log_at, object_of}
use Rattle.dym_chain.specs.Lawful.{IsLawful, logged_of}
use Rattle.dym_chain.specs.Loads.{AreFetched, HaveVersion, KeepsUnmodified, PacksTouched}
use Rattle.dym_chain.specs.Differences.{AreDifferences, difference_at}
use Rattle.dym_chain.specs.Copies.{ChainCopies}
use Rattle.dym_chain.specs.ChainInvariants.{chain_of, IsChain}
use Rattle.dym_chain.specs.declared.entry.Entry.{Entry}
use Rattle.dym_base.proofs.Runs.{all_take, all_drop}
use Rattle.dym_chain.proofs.Places.{first_depth, depth_within, newest_there, entry_at, count_same}
use Rattle.dym_chain.proofs.Stands.{stands_at}
use Rattle.dym_chain.proofs.Loading.{restored_state}
use Rattle.dym_chain.proofs.DifferenceFacts.{settled_back}
use Rattle.dym_chain.proofs.Lawfuls.{version_same, held_same, recorded_at, at_place, packed_of, logged_all}
use Rattle.dym_chain.proofs.Moves.{lawful_take, records_take}
use Rattle.dym_chain.proofs.Prunes.{records_count, base_is}

-- the chain with its first n logs alone
abbrev pub first_logs : ℕ → ChainMeaning → ChainMeaning
first_logs n c = record c { logs = take n c.logs; records = take (length c.base_logs + n) c.records }

-- the answer of a restore

pub none_restored : (s : HeapState) (c : ChainMeaning) (t : ℕ) → reached t c.logs ≡ 0 → restore (object_of s c) t ≡ restore_to (object_of s c) [] None
none_restored s c t none = ap (λ n. restore_to (object_of s c) (take n c.logs) (newest (take n c.logs))) none

pub last_of_first : (logs : List LogEntry) (n : ℕ) → 0 < n → n ≤ length logs → newest (take n logs) ≡ Some (log_at logs (n - 1))
last_of_first logs n some within =
    newest_there (take n logs) (n - 1) (omega (arith, length-take n logs, some, within)) ∙ ap Some (get_or-take n logs (n - 1) no_entry (omega (arith, some)))

pub restored_is : (s : HeapState) (c : ChainMeaning) (t n : ℕ) → n ≡ reached t c.logs → 0 < n → n ≤ length c.logs → restore (object_of s c) t ≡ restore_to (object_of s c) (take n c.logs) (Some (log_at c.logs (n - 1)))
restored_is s c t n is some within =
    ap (λ k. restore_to (object_of s c) (take k c.logs) (newest (take k c.logs))) (sym is)
    ∙ ap (λ o. restore_to (object_of s c) (take n c.logs) o) (last_of_first c.logs n some within)

-- what holds where the first n logs are left
pub record Restoring (keep : KeepMeaning) (copies : ChainCopies) (n base depth time : ℕ) : Type 0 where
  pub some : 0 < n
  pub within : n ≤ length copies.logs
  pub base_is : base ≡ length copies.base_logs
  pub depth_is : depth ≡ (log_at copies.logs (n - 1)).depth
  pub time_is : time ≡ (log_at copies.logs (n - 1)).time
  pub fits : depth ≤ base + (n - 1)
  pub inside : base + (n - 1) < length keep.records
  pub small : base + n < 1024
  pub shallow : depth ≤ 31

pub restoring : {kept : List Entry} {capacity : ℕ} {keep : KeepMeaning} {copies : ChainCopies} (n base depth time : ℕ) (d e : Entry) → IsChain kept capacity keep copies → 0 < n → n ≤ length kept → base ≡ (get_or kept 0 d).depth
    → depth ≡ (get_or kept (n - 1) e).depth → time ≡ (get_or kept (n - 1) e).time → Restoring keep copies n base depth time
restoring {kept = kept} {keep = keep} {copies = copies} n base depth time d e chain some within base_of depth_of time_of =
    let c : ChainMeaning = chain_of copies keep in
    let count = count_same copies.logs kept chain.shows.entries in
    let there : n - 1 < length copies.logs = omega (arith, count, some, within) in
    let first : 0 < length copies.logs = omega (arith, there) in
    let at : base ≡ length copies.base_logs = base_of ∙ base_is d chain first in
    let target = entry_at copies.logs kept (n - 1) e chain.shows.entries there in
    let low : depth ≡ (log_at copies.logs (n - 1)).depth = depth_of ∙ ap (λ (x : Entry). x.depth) target in
    let i_within : length copies.base_logs + (n - 1) < length (all_logs c) = omega (arith, length-append copies.base_logs copies.logs, there) in
    let deep = depth_within (all_logs c) chain.lawful.follows chain.lawful.full (length copies.base_logs + (n - 1)) i_within in
    let same = ap (λ (x : LogEntry). x.depth) (at_place c (n - 1)) in
    let records = records_count c chain.lawful in
    let Small : LogEntry → Type 0 = λ x. x.depth ≤ 31 in
    let shallow : (log_at copies.logs (n - 1)).depth ≤ 31 = All-from_recursion Small copies.logs chain.lawful.list.1 (n - 1) no_entry there in
    let oldest : (log_at copies.logs 0).depth ≤ 31 = All-from_recursion Small copies.logs chain.lawful.list.1 0 no_entry first in
    let first_is = first_depth copies.logs first in
    let few = chain.lawful.list.0 in
    let base_law = chain.lawful.base in
    record {
      some = some;
      within = omega (arith, count, within);
      base_is = at;
      depth_is = low;
      time_is = time_of ∙ ap (λ (x : Entry). x.time) target;
      fits = omega (arith, deep, same, low, at);
      inside = omega (arith, records, at, there);
      small = omega (arith, at, base_law, first_is, oldest, there, few, some);
      shallow = omega (arith, low, shallow);
    }

-- ---- the records of kept logs

module _ (c : ChainMeaning) (v : Version) (law : IsLawful c) (are : bytes_of c.records ≡ map (record_of v) (all_logs c)) where
  at_all : (i : ℕ) → i < length c.logs → length c.base_logs + i < length (all_logs c)
  at_all i within = omega (arith, length-append c.base_logs c.logs, within)

  pub log_record : (i : ℕ) → i < length c.logs → (record_at c.records (length c.base_logs + i)).bytes ≡ record_of v (log_at c.logs i)
  log_record i within =
      let place : ℕ = length c.base_logs + i in
      sym (get_or-map (λ (r : Numbered). r.bytes) c.records place no_record [] (omega (arith, records_count c law, within)))
      ∙ ap (λ (l : List (List ℕ)). get_or l place []) are
      ∙ get_or-map (record_of v) (all_logs c) place no_entry [] (at_all i within)
      ∙ ap (record_of v) (at_place c i)

  pub all_recorded : AllByRecursion (λ (e : LogEntry). IsRecorded (logged_of v e)) (all_logs c)
  all_recorded = recorded_at (all_logs c) v law.version (sym law.records ∙ are) law.recorded

  pub log_recorded : (i : ℕ) → i < length c.logs → IsRecorded (logged_of v (log_at c.logs i))
  log_recorded i within =
      let R : LogEntry → Type 0 = λ e. IsRecorded (logged_of v e) in
      subst R (at_place c i) (All-from_recursion R (all_logs c) all_recorded (length c.base_logs + i) no_entry (at_all i within))

pub target_recorded : (c : ChainMeaning) (v : Version) (n : ℕ) → IsLawful c → bytes_of c.records ≡ map (record_of v) (all_logs c) → 0 < n → n ≤ length c.logs → IsRecorded (logged_of v (log_at c.logs (n - 1)))
target_recorded c v n law are some within = log_recorded c v law are (n - 1) (omega (arith, some, within))

-- the record of the log that is restored, in a keep without the later ones
pub target_record : (c : ChainMeaning) (v : Version) (law : IsLawful c) (are : bytes_of c.records ≡ map (record_of v) (all_logs c)) (n base : ℕ) → 0 < n → n ≤ length c.logs → base ≡ length c.base_logs
    → (record_at (take (base + (n - 1) + 1) c.records) (base + (n - 1))).bytes ≡ record_of v (log_at c.logs (n - 1))
target_record c v law are n base some within base_is =
    ap (λ (r : Numbered). r.bytes) (get_or-take (base + (n - 1) + 1) c.records (base + (n - 1)) no_record (omega arith))
    ∙ ap (λ b. (record_at c.records (b + (n - 1))).bytes) base_is
    ∙ log_record c v law are (n - 1) (omega (arith, some, within))

pub of_version : (rec : List ℕ) (v : Version) (e : LogEntry) → rec ≡ record_of v e → OfLog rec (λ log. log.version ≡ v)
of_version rec v e is log recorded same = version_same log (logged_of v e) (same ∙ is)

pub within_quota : (rec : List ℕ) (v : Version) (e : LogEntry) (quota : ℕ) → IsRecorded (logged_of v e) → held e.copy ≤ quota → rec ≡ record_of v e → OfLog rec (λ log. held log.copy ≤ quota)
within_quota rec v e quota mine fits is log recorded same =
    let equal : held log.copy ≡ held e.copy = held_same log (logged_of v e) recorded mine (same ∙ is) in
    omega (arith, equal, fits)

-- the records that are loaded
have_version : (v : Version) (logs : List LogEntry) → HaveVersion v (map (record_of v) logs)
have_version v [] = tt
have_version v (e ∷ logs) = (of_version (record_of v e) v e refl, have_version v logs)

pub part_records : (c : ChainMeaning) (v : Version) (a b : ℕ) → bytes_of c.records ≡ map (record_of v) (all_logs c) → map (record_of v) (take a (drop b (all_logs c))) ≡ take a (drop b (bytes_of c.records))
part_records c v a b are =
    sym (take-map (record_of v) a (drop b (all_logs c))) ∙ ap (take a) (sym (drop-map (record_of v) b (all_logs c))) ∙ ap (λ l. take a (drop b l)) (sym are)

pub part_version : (c : ChainMeaning) (v : Version) (a b : ℕ) → bytes_of c.records ≡ map (record_of v) (all_logs c) → HaveVersion v (take a (drop b (bytes_of c.records)))
part_version c v a b are = subst (HaveVersion v) (part_records c v a b are) (have_version v (take a (drop b (all_logs c))))

-- the keep, after its later records were dropped and one was out and back
pub lowered : {k1 k2 k3 : KeepMeaning} (k : KeepMeaning) (place : ℕ) → k1 ≡ up_to k place → k2 ≡ record k1 { lifted = Some place } → k3 ≡ record k2 { lifted = None } → k.lifted ≡ None → k3 ≡ up_to k place
lowered k place dropped out back idle =
    back ∙ ap (λ (x : KeepMeaning). record x { lifted = None }) (out ∙ ap (λ (x : KeepMeaning). record x { lifted = Some place }) dropped)
    ∙ ap (λ (l : Option ℕ). record { records = take (place + 1) k.records; made = k.made; lifted = l; origin = k.origin }) (sym idle)

-- the chain that the fields then show
pub first_is : {keep' : KeepMeaning} {copies' : ChainCopies} (keep : KeepMeaning) (copies : ChainCopies) (n base : ℕ) → 0 < n → base ≡ length copies.base_logs → keep' ≡ up_to keep (base + (n - 1))
    → copies' ≡ record { base_logs = copies.base_logs; logs = take n copies.logs } → chain_of copies' keep' ≡ first_logs n (chain_of copies keep)
first_is {keep' = keep'} keep copies n base some at keep_is told_is =
    let told : ChainCopies = record { base_logs = copies.base_logs; logs = take n copies.logs } in
    let sum : base + (n - 1) + 1 ≡ length copies.base_logs + n = omega (arith, some, at) in
    ap (λ (x : ChainCopies). chain_of x keep') told_is ∙ ap (chain_of told) keep_is ∙ ap (λ m. chain_of told (record keep { records = take m keep.records })) sum

-- what stays as it was
pub keeps_rest : {x c now : ChainMeaning} (n : ℕ) → x ≡ first_logs n c → c ≡ now → x ≡ record now { logs = x.logs; records = x.records }
keeps_rest {c = c} {now = now} n is same =
    is ∙ ap (λ (y : ChainMeaning). record y { logs = take n c.logs; records = take (length c.base_logs + n) c.records }) same
    ∙ ap (λ (y : ChainMeaning). record now { logs = y.logs; records = y.records }) (sym is)

pub heap_rest : {h1 h2 h3 : HeapMeaning} (h : HeapMeaning) → h1 ≡ record h { state = h1.state } → h2 ≡ record h1 { state = h2.state; held_ids = h2.held_ids } → h3 ≡ record h2 { state = h3.state } → h3 ≡ record h { state = h3.state; held_ids = h3.held_ids }
heap_rest {h2 = h2} {h3 = h3} h marked shaped fetched =
    fetched ∙ ap (λ (x : HeapMeaning). record x { state = h3.state }) shaped
    ∙ ap (λ (x : HeapMeaning). record x { state = h3.state; held_ids = h2.held_ids }) marked
    ∙ ap (λ (x : List SegmentId). record h { state = h3.state; held_ids = x }) (sym (ap (λ (x : HeapMeaning). x.held_ids) fetched))

-- ---- the restored state

module _ (c : ChainMeaning) (v : Version) (quota n : ℕ) (s : HeapState) (law : IsLawful c) (belongs : Belongs v quota s c) (some : 0 < n) (within : n ≤ length c.logs) where
  abbrev target : LogEntry
  target = log_at c.logs (n - 1)

  abbrev first : ChainMeaning
  first = first_logs n c

  abbrev place : ℕ
  place = length c.base_logs + (n - 1)

  -- the logs whose records are fetched
  abbrev part : ℕ → List LogEntry
  part depth = take (depth + 1) (drop (place - depth) (all_logs first))

  first_records : bytes_of first.records ≡ map (record_of v) (all_logs first)
  first_records = records_take c v n belongs.records

  part_recorded : (depth : ℕ) → AllByRecursion IsRecorded (map (logged_of v) (part depth))
  part_recorded depth =
      let R : LogEntry → Type 0 = λ e. IsRecorded (logged_of v e) in
      logged_all v (part depth) (all_take R (depth + 1) (drop (place - depth) (all_logs first)) (all_drop R (place - depth) (all_logs first) (all_recorded first v (lawful_take c n some law) first_records)))

  part_stands : (depth : ℕ) → depth ≡ target.depth → LogsStandFor (map (logged_of v) (part depth)) target.copy
  part_stands depth deep =
      let first_law : IsLawful first = lawful_take c n some law in
      let inside : place < length (all_logs first) = omega (arith, length-append c.base_logs (take n c.logs), length-take n c.logs, some, within) in
      let at : log_at (all_logs first) place ≡ target = at_place first (n - 1) ∙ get_or-take n c.logs (n - 1) no_entry (omega (arith, some)) in
      subst (λ d. LogsStandFor (map (logged_of v) (part d)) target.copy) (sym deep)
      (subst (λ (e : LogEntry). LogsStandFor (map (logged_of v) (part e.depth)) e.copy) at (stands_at v (all_logs first) first_law.follows first_law.keeps first_law.full place inside))

  -- where what the dropped logs changed is touched, what is fetched from those that stand for the copy leaves the copy
  pub restored_all : (depth : ℕ) (differences : List (Option (List ℕ))) (m r f : HeapState) → AreDifferences c.logs differences → depth ≡ target.depth
      → ((i : ℕ) → n ≤ i → i < length c.logs → OfLog (unwrap_or (difference_at differences i) (record_at c.records (length c.base_logs + i)).bytes) (PacksTouched m)) → KeepsUnmodified s m
      → ((k : ℕ) → IsReshaped (contains_key target.copy k) (heap_chunk m k) (heap_chunk r k))
      → ((logs : List Logged) → AllByRecursion IsRecorded logs → map packed logs ≡ take (depth + 1) (drop (place - depth) (bytes_of first.records)) → AreFetched logs r f)
      → f ≡ record { live = target.copy; touched = set.empty }
  restored_all depth differences m r f are deep marked settles shaped fetched =
      let unmodified : (k : ℕ) → is_unmodified (heap_chunk m k) ≡ true → get target.copy k ≡ get m.live k = λ k was.
      settled_back v c.logs differences c.records (length c.base_logs) n s m belongs.keeps belongs.untouched are (log_recorded c v law belongs.records) (log_record c v law belongs.records) marked settles k was some within in
      restored_state m r f target.copy (map (logged_of v) (part depth)) unmodified shaped (part_stands depth deep)
      (fetched (map (logged_of v) (part depth)) (part_recorded depth) (packed_of v (part depth) ∙ part_records first v (depth + 1) (place - depth) first_records))
