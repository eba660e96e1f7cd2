-- A chain with one log more, with its first logs alone, and with the first ones dropped: it stays lawful, and belongs to its heap.
use Rattle.std.proofs.Common.{◌≡◌, ℕ, zero, suc, ◌+◌, ◌-◌, ◌<◌, ◌≤◌, Some, None, List, [], ◌∷◌, ◌++◌, length, map, take, drop, refl, sym, ap, subst, ◌∙◌, arith, append_assoc, length-append}
use Rattle.std.specs.List.{AllByRecursion}
use Rattle.std.specs.FinSet as set
use Rattle.std.proofs.Math.Seq.{take-append-add, drop-append-add}
use Rattle.std.proofs.lemmas.List.{length-take, length-drop, map-append, take-map, drop-map, take-append-drop, drop-drop}
use Rattle.dym_base.specs.Heaps.{Live, HeapState, held}
use Rattle.dym_base.specs.Objects.{LogEntry, record_of, newest}
use Rattle.dym_base.specs.RunLaws.{EachFollows, IsLogList}
use Rattle.dym_base.specs.declared.command.Version.{Version}
use Rattle.dym_base.proofs.Runs.{NewestBefore, all_push, all_take, all_drop, follows_push, follows_take, follows_drop}
use Rattle.dym_base.specs.Recorded.{IsRecorded}
use Rattle.dym_slots.specs.Meanings.{Numbered}
use Rattle.dym_chain.specs.Keeps.{bytes_of}
use Rattle.dym_base.specs.BaseLogs.{oldest_depth}
use Rattle.dym_chain.specs.Chains.{ChainMeaning, all_logs, log_at, KeepsFromBefore, EachKeeps, KeepsFromNewest, Belongs, logged}
use Rattle.dym_chain.specs.Lawful.{IsLawful, logged_of}
use Rattle.dym_chain.proofs.Places.{depth_within, base_is_full, keeps_take, keeps_drop, keeps_push, newest_push, newest_append}
use Rattle.dym_chain.proofs.Lawfuls.{recorded_at, at_place}

-- the newest of all logs is the newest kept one
pub newest_all : (base_logs logs : List LogEntry) → length base_logs ≡ oldest_depth logs → newest (base_logs ++ logs) ≡ newest logs
newest_all [] [] base = refl
newest_all (e ∷ base_logs) [] base = absurd (omega (arith, base))
newest_all base_logs (e ∷ logs) base = newest_append base_logs e logs

-- one log more

oldest_push : (logs : List LogEntry) (e : LogEntry) → oldest_depth logs ≡ 0 → (newest logs ≡ None → e.depth ≡ 0) → oldest_depth (logs ++ e ∷ []) ≡ 0
oldest_push [] e full first = first refl
oldest_push (f ∷ logs) e full first = full

base_push : (n : ℕ) (logs : List LogEntry) (e : LogEntry) → n ≡ oldest_depth logs → (newest logs ≡ None → e.depth ≡ 0) → n ≡ oldest_depth (logs ++ e ∷ [])
base_push n [] e base first = base ∙ sym (first refl)
base_push n (f ∷ logs) e base first = base

-- what a log that comes next must be
pub record ComesNext (c : ChainMeaning) (v : Version) (e : LogEntry) : Type 0 where
  pub recorded : IsRecorded (logged_of v e)
  pub list : IsLogList (c.logs ++ e ∷ [])
  pub before : NewestBefore (newest c.logs) e
  pub keeps : (f : LogEntry) → newest c.logs ≡ Some f → KeepsFromBefore f e
  pub first : newest c.logs ≡ None → e.depth ≡ 0

records_push : (c : ChainMeaning) (v : Version) (e : LogEntry) → bytes_of c.records ≡ map (record_of v) (all_logs c) → bytes_of (logged v e c).records ≡ map (record_of v) (all_logs (logged v e c))
records_push c v e are =
    map-append (λ (r : Numbered). r.bytes) c.records (record { number = c.made; bytes = record_of v e } ∷ [])
    ∙ ap (λ l. l ++ record_of v e ∷ []) are
    ∙ sym (map-append (record_of v) (all_logs c) (e ∷ []))
    ∙ ap (map (record_of v)) (append_assoc c.base_logs c.logs (e ∷ []))

pub lawful_push : (c : ChainMeaning) (v : Version) (e : LogEntry) → IsLawful c → bytes_of c.records ≡ map (record_of v) (all_logs c) → ComesNext c v e → IsLawful (logged v e c)
lawful_push c v e law are next =
    let last : newest (all_logs c) ≡ newest c.logs = newest_all c.base_logs c.logs law.base in
    let all : c.base_logs ++ (c.logs ++ e ∷ []) ≡ all_logs c ++ e ∷ [] = sym (append_assoc c.base_logs c.logs (e ∷ [])) in
    let R : LogEntry → Type 0 = λ f. IsRecorded (logged_of v f) in
    record {
      version = v;
      records = records_push c v e are;
      recorded = subst (AllByRecursion R) (sym all) (all_push R (all_logs c) e (recorded_at (all_logs c) v law.version (sym law.records ∙ are) law.recorded) next.recorded);
      list = next.list;
      full = ap oldest_depth all ∙ oldest_push (all_logs c) e law.full (λ none. next.first (sym last ∙ none));
      follows = subst EachFollows (sym all) (follows_push (all_logs c) e law.follows (subst (λ o. NewestBefore o e) (sym last) next.before));
      keeps = subst EachKeeps (sym all) (keeps_push (all_logs c) e law.keeps (λ f is. next.keeps f (sym last ∙ is)));
      base = base_push (length c.base_logs) c.logs e law.base next.first;
    }

pub belongs_push : (c : ChainMeaning) (v : Version) (quota : ℕ) (s : HeapState) (e : LogEntry) → Belongs v quota s c → ComesNext c v e → e.copy ≡ s.live → held s.live ≤ quota → Belongs v quota (record { live = s.live; touched = set.empty }) (logged v e c)
belongs_push c v quota s e belongs next copy within =
    let Within : LogEntry → Type 0 = λ f. held f.copy ≤ quota in
    record {
      records = records_push c v e belongs.records;
      untouched = subst (λ o. KeepsFromNewest (record { live = s.live; touched = set.empty }) o) (sym (newest_push c.logs e)) (λ k has untouched. ap (λ (m : Live). Rattle.std.specs.FinMap.get m k) copy);
      keeps = keeps_push c.logs e belongs.keeps next.keeps;
      within = all_push Within c.logs e belongs.within (subst (λ (m : Live). held m ≤ quota) (sym copy) within);
    }

-- the first logs alone

oldest_take : (n : ℕ) (logs : List LogEntry) → 0 < n → oldest_depth (take n logs) ≡ oldest_depth logs
oldest_take zero logs some = absurd (omega (arith, some))
oldest_take (suc n) [] some = refl
oldest_take (suc n) (e ∷ logs) some = refl

oldest_take_full : (n : ℕ) (logs : List LogEntry) → oldest_depth logs ≡ 0 → oldest_depth (take n logs) ≡ 0
oldest_take_full zero logs full = refl
oldest_take_full (suc n) [] full = refl
oldest_take_full (suc n) (e ∷ logs) full = full

pub all_take_is : (c : ChainMeaning) (n : ℕ) → c.base_logs ++ take n c.logs ≡ take (length c.base_logs + n) (all_logs c)
all_take_is c n = sym (take-append-add c.base_logs c.logs n)

pub records_take : (c : ChainMeaning) (v : Version) (n : ℕ) → bytes_of c.records ≡ map (record_of v) (all_logs c) → bytes_of (take (length c.base_logs + n) c.records) ≡ map (record_of v) (c.base_logs ++ take n c.logs)
records_take c v n are =
    sym (take-map (λ (r : Numbered). r.bytes) (length c.base_logs + n) c.records)
    ∙ ap (take (length c.base_logs + n)) are
    ∙ take-map (record_of v) (length c.base_logs + n) (all_logs c)
    ∙ ap (map (record_of v)) (sym (all_take_is c n))

pub list_take : (n : ℕ) (logs : List LogEntry) → IsLogList logs → IsLogList (take n logs)
list_take n logs list = (rw length-take (omega (arith, list.0)), all_take (λ (e : LogEntry). e.depth ≤ 31) n logs list.1, follows_take n logs list.2)

pub lawful_take : (c : ChainMeaning) (n : ℕ) → 0 < n → IsLawful c → IsLawful (record c { logs = take n c.logs; records = take (length c.base_logs + n) c.records })
lawful_take c n some law =
    let v = law.version in
    let all = all_take_is c n in
    let R : LogEntry → Type 0 = λ f. IsRecorded (logged_of v f) in
    record {
      version = v;
      records = records_take c v n law.records;
      recorded = subst (AllByRecursion R) (sym all) (all_take R (length c.base_logs + n) (all_logs c) law.recorded);
      list = list_take n c.logs law.list;
      full = ap oldest_depth all ∙ oldest_take_full (length c.base_logs + n) (all_logs c) law.full;
      follows = subst EachFollows (sym all) (follows_take (length c.base_logs + n) (all_logs c) law.follows);
      keeps = subst EachKeeps (sym all) (keeps_take (length c.base_logs + n) (all_logs c) law.keeps);
      base = law.base ∙ sym (oldest_take n c.logs some);
    }

pub belongs_take : (c : ChainMeaning) (v : Version) (quota n : ℕ) (s : HeapState) (e : LogEntry) → Belongs v quota s c → newest (take n c.logs) ≡ Some e → Belongs v quota (record { live = e.copy; touched = set.empty }) (record c { logs = take n c.logs; records = take (length c.base_logs + n) c.records })
belongs_take c v quota n s e belongs last = record {
  records = records_take c v n belongs.records;
  untouched = subst (λ o. KeepsFromNewest (record { live = e.copy; touched = set.empty }) o) (sym last) (λ k has untouched. refl);
  keeps = keeps_take n c.logs belongs.keeps;
  within = all_take (λ (f : LogEntry). held f.copy ≤ quota) n c.logs belongs.within;
}

-- the first logs dropped

pub newest_drop : (n : ℕ) (logs : List LogEntry) → n < length logs → newest (drop n logs) ≡ newest logs
newest_drop zero logs within = refl
newest_drop (suc n) [] within = absurd (omega (arith, within))
newest_drop (suc n) (e ∷ []) within = absurd (omega (arith, within))
newest_drop (suc n) (e ∷ f ∷ logs) within = newest_drop n (f ∷ logs) (omega (arith, within))

pub oldest_drop : (n : ℕ) (logs : List LogEntry) → n < length logs → oldest_depth (drop n logs) ≡ (log_at logs n).depth
oldest_drop zero [] within = absurd (omega (arith, within))
oldest_drop zero (e ∷ logs) within = refl
oldest_drop (suc n) [] within = absurd (omega (arith, within))
oldest_drop (suc n) (e ∷ logs) within = oldest_drop n logs (omega (arith, within))

-- n logs dropped, with the records from the full log of the next one on
abbrev pub without : ℕ → ChainMeaning → ChainMeaning
without n c =
    let gone = length c.base_logs + n - oldest_depth (drop n c.logs) in
    record {
      base_logs = take (oldest_depth (drop n c.logs)) (drop gone (all_logs c));
      logs = drop n c.logs;
      records = drop gone c.records;
      made = c.made;
      lifted = c.lifted;
      origin = c.origin;
    }

-- the next one's full log is there
pub depth_fits : (c : ChainMeaning) (n : ℕ) → n < length c.logs → IsLawful c → oldest_depth (drop n c.logs) ≤ length c.base_logs + n
depth_fits c n within law =
    let inside : length c.base_logs + n < length (all_logs c) = omega (arith, length-append c.base_logs c.logs, within) in
    let low = depth_within (all_logs c) law.follows law.full (length c.base_logs + n) inside in
    omega (arith, low, ap (λ (e : LogEntry). e.depth) (at_place c n), oldest_drop n c.logs within)

pub all_drop_is : (c : ChainMeaning) (n : ℕ) → n < length c.logs → IsLawful c → all_logs (without n c) ≡ drop (length c.base_logs + n - oldest_depth (drop n c.logs)) (all_logs c)
all_drop_is c n within law =
    let d : ℕ = oldest_depth (drop n c.logs) in
    let gone : ℕ = length c.base_logs + n - d in
    let fits = depth_fits c n within law in
    let sum : gone + d ≡ length c.base_logs + n = omega (arith, fits) in
    ap (λ l. take d (drop gone (all_logs c)) ++ l) (sym (drop-append-add c.base_logs c.logs n) ∙ ap (λ m. drop m (all_logs c)) (sym sum) ∙ sym (drop-drop d gone (all_logs c)))
    ∙ take-append-drop d (drop gone (all_logs c))

records_drop : (c : ChainMeaning) (v : Version) (n : ℕ) → n < length c.logs → IsLawful c → bytes_of c.records ≡ map (record_of v) (all_logs c) → bytes_of (without n c).records ≡ map (record_of v) (all_logs (without n c))
records_drop c v n within law are =
    let gone : ℕ = length c.base_logs + n - oldest_depth (drop n c.logs) in
    sym (drop-map (λ (r : Numbered). r.bytes) gone c.records)
    ∙ ap (drop gone) are
    ∙ drop-map (record_of v) gone (all_logs c)
    ∙ ap (map (record_of v)) (sym (all_drop_is c n within law))

pub lawful_drop : (c : ChainMeaning) (n : ℕ) → n < length c.logs → IsLawful c → IsLawful (without n c)
lawful_drop c n within law =
    let v = law.version in
    let d : ℕ = oldest_depth (drop n c.logs) in
    let i : ℕ = length c.base_logs + n in
    let gone : ℕ = i - d in
    let fits = depth_fits c n within law in
    let inside : i < length (all_logs c) = omega (arith, length-append c.base_logs c.logs, within) in
    let depth : (log_at (all_logs c) i).depth ≡ d = ap (λ (e : LogEntry). e.depth) (at_place c n) ∙ sym (oldest_drop n c.logs within) in
    let all = all_drop_is c n within law in
    let R : LogEntry → Type 0 = λ f. IsRecorded (logged_of v f) in
    record {
      version = v;
      records = records_drop c v n within law law.records;
      recorded = subst (AllByRecursion R) (sym all) (all_drop R gone (all_logs c) law.recorded);
      list = (rw length-drop (omega (arith, law.list.0)), all_drop (λ (e : LogEntry). e.depth ≤ 31) n c.logs law.list.1, follows_drop n c.logs law.list.2);
      full = ap oldest_depth all ∙ oldest_drop gone (all_logs c) (omega (arith, inside)) ∙ ap (λ m. (log_at (all_logs c) (i - m)).depth) (sym depth) ∙ base_is_full (all_logs c) law.follows law.full i inside;
      follows = subst EachFollows (sym all) (follows_drop gone (all_logs c) law.follows);
      keeps = subst EachKeeps (sym all) (keeps_drop gone (all_logs c) law.keeps);
      base = rw (length-take, length-drop) (omega (arith, fits, inside));
    }

pub belongs_drop : (c : ChainMeaning) (v : Version) (quota n : ℕ) (s : HeapState) → n < length c.logs → IsLawful c → Belongs v quota s c → Belongs v quota s (without n c)
belongs_drop c v quota n s within law belongs = record {
  records = records_drop c v n within law belongs.records;
  untouched = subst (KeepsFromNewest s) (sym (newest_drop n c.logs within)) belongs.untouched;
  keeps = keeps_drop n c.logs belongs.keeps;
  within = all_drop (λ (f : LogEntry). held f.copy ≤ quota) n c.logs belongs.within;
}
