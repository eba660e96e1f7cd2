-- The times and depths of what records say, read one after the other.
use Rattle.std.proofs.Common.{◌≡◌, ℕ, zero, suc, ◌+◌, ◌-◌, ◌<◌, ◌≤◌, inl, inr, List, [], ◌∷◌, ◌++◌, length, map, take, drop, get_or, refl, sym, ap, ◌∙◌, arith}
use Rattle.std.specs.FinMap as map
use Rattle.std.specs.FinSet as set
use Rattle.std.specs.List.{AllByRecursion}
use Rattle.std.proofs.lemmas.Bool.{cases_lt}
use Rattle.std.proofs.lemmas.List.{length-drop, length-map, get_or-drop, get_or-map, map_more, take_all}
use Rattle.std.proofs.lemmas.List.Elements.{All-from_recursion}
use Rattle.dym_base.specs.LawfulLists as lawful
use Rattle.dym_base.specs.LawfulLists.{depth_after}
use Rattle.dym_base.specs.Objects.{LogEntry}
use Rattle.dym_base.specs.Packed.{Logged, packed}
use Rattle.dym_base.specs.Recorded.{IsRecorded}
use Rattle.dym_base.specs.declared.command.Version.{Version}
use Rattle.dym_base.specs.declared.command.Version.TheVariants.{One}
use Rattle.dym_base.specs.declared.command.Kind.TheVariants.{Full, Inc}
use Rattle.dym_pack.specs.ParsedAreas.{OfLog}
use Rattle.dym_slots.specs.Meanings.{Numbered, no_record, record_at}
use Rattle.dym_chain.specs.AdoptedLogs.{run_to, entries_from, entries_of}
use Rattle.dym_chain.specs.Chains.{no_entry, log_at}
use Rattle.dym_chain.specs.Keeps.{bytes_of}
use Rattle.dym_chain.specs.Lawful.{entry_of}
use Rattle.dym_chain.specs.declared.entry.Entry.{Entry}
use Rattle.dym_chain.proofs.SaidLists.{said_count, said_shallow, first_depth}

abbrev pub no_logged : Logged
no_logged = record { version = One; kind = Full; time = 0; copy = map.empty; found = set.empty }

abbrev pub logged_at : List Logged → ℕ → Logged
logged_at logs k = get_or logs k no_logged

time_at : (n : ℕ) (run : List Logged) (logs : List Logged) (k : ℕ) → k < length logs → (log_at (entries_from n run logs) k).time ≡ (logged_at logs k).time
time_at n run [] k within = absurd (omega (arith, within))
time_at n run (log ∷ logs) zero within = refl
time_at n run (log ∷ logs) (suc k) within = time_at (depth_after n log.kind) (run_to log.kind run log) logs k (omega (arith, within))

depth_start : (n : ℕ) (run : List Logged) (logs : List Logged) → 0 < length logs → (log_at (entries_from n run logs) 0).depth ≡ depth_after n (logged_at logs 0).kind
depth_start n run [] some = absurd (omega (arith, some))
depth_start n run (log ∷ logs) some = refl

depth_next : (n : ℕ) (run : List Logged) (logs : List Logged) (k : ℕ) → suc k < length logs → (log_at (entries_from n run logs) (suc k)).depth ≡ depth_after (log_at (entries_from n run logs) k).depth (logged_at logs (suc k)).kind
depth_next n run [] k within = absurd (omega (arith, within))
depth_next n run (log ∷ logs) zero within = depth_start (depth_after n log.kind) (run_to log.kind run log) logs (omega (arith, within))
depth_next n run (log ∷ logs) (suc k) within = depth_next (depth_after n log.kind) (run_to log.kind run log) logs k (omega (arith, within))

-- what was read, up to a place: the entries, and the depth from which the next one is counted
pub record HasRead (first place depth : ℕ) (entries : List Entry) (logs : List Logged) : Type 0 where
  pub items : entries ≡ map entry_of (take (place - first) (drop first (entries_of logs)))
  pub next : place < length logs → (log_at (entries_of logs) place).depth ≡ depth_after depth (logged_at logs place).kind

fewer : (k : ℕ) (logs : List Logged) → AllByRecursion (λ (l : Logged). l.kind ≡ Inc) (take (suc k) logs) → AllByRecursion (λ (l : Logged). l.kind ≡ Inc) (take k logs)
fewer zero logs incs = tt
fewer (suc k) [] incs = tt
fewer (suc k) (log ∷ logs) incs = (incs.0, fewer k logs incs.1)

first_next : (v : Version) (first : ℕ) (logs : List Logged) → lawful.IsLawful v first logs → first < length logs → (log_at (entries_of logs) first).depth ≡ depth_after (first - 1) (logged_at logs first).kind
first_next v zero logs is within = depth_start 0 [] logs within
first_next v (suc k) logs is within =
    let before : (log_at (entries_of logs) k).depth ≡ k = first_depth logs k (omega (arith, within)) is.full (fewer k (drop 1 logs) is.base) in
    let same : k ≡ suc k - 1 = omega arith in
    depth_next 0 [] logs k within ∙ ap (λ n. depth_after n (logged_at logs (suc k)).kind) (before ∙ same)

pub read_start : (v : Version) (first place depth : ℕ) (items : List Entry) (logs : List Logged) → lawful.IsLawful v first logs → place ≡ first → depth ≡ first - 1 → items ≡ [] → HasRead first place depth items logs
read_start v first place depth items logs is here deep empty =
    let none : 0 ≡ place - first = omega (arith, here) in
    record {
      items = empty ∙ ap (λ n. map entry_of (take n (drop first (entries_of logs)))) none;
      next = λ within. ap (λ k. (log_at (entries_of logs) k).depth) here
          ∙ first_next v first logs is (omega (arith, here, within))
          ∙ (λ i. depth_after (sym deep i) (logged_at logs (sym here i)).kind);
    }

same_entry : (e : LogEntry) (entry : Entry) → entry.time ≡ e.time → entry.depth ≡ e.depth → entry ≡ entry_of e
same_entry e entry time depth = λ i. record { time = time i; depth = depth i }

pub read_step : (first place depth : ℕ) (items : List Entry) (logs : List Logged) (entry : Entry) → HasRead first place depth items logs → first ≤ place → place < length logs → entry ≡ record { time = (logged_at logs place).time; depth = depth_after depth (logged_at logs place).kind }
    → HasRead first (place + 1) entry.depth (items ++ entry ∷ []) logs
read_step first place depth items logs entry read low within is =
    let es : List LogEntry = entries_of logs in
    let deep : entry.depth ≡ (log_at es place).depth = ap (λ (e : Entry). e.depth) is ∙ sym (read.next within) in
    let here : entry ≡ entry_of (log_at es place) = same_entry (log_at es place) entry (ap (λ (e : Entry). e.time) is ∙ sym (time_at 0 [] logs place within)) deep in
    let k : ℕ = place - first in
    let sum : first + k ≡ place = omega (arith, low) in
    let inside : k < length (drop first es) = (let left = length-drop first es in let n = said_count 0 [] logs in omega (arith, left, n, within, low)) in
    let at : get_or (drop first es) k no_entry ≡ log_at es place = get_or-drop first es k no_entry ∙ ap (log_at es) sum in
    let grown : k + 1 ≡ (place + 1) - first = omega (arith, low) in
    let one : suc place ≡ place + 1 = omega arith in
    record {
      items = (λ i. read.items i ++ here i ∷ [])
          ∙ ap (λ (e : LogEntry). map entry_of (take k (drop first es)) ++ entry_of e ∷ []) (sym at)
          ∙ sym (map_more entry_of (drop first es) k no_entry inside)
          ∙ ap (λ n. map entry_of (take n (drop first es))) grown;
      next = λ more. ap (λ m. (log_at es m).depth) (sym one)
          ∙ depth_next 0 [] logs place (omega (arith, more))
          ∙ (λ i. depth_after (sym deep i) (logged_at logs (one i)).kind);
    }

pub read_end : (first place depth : ℕ) (items : List Entry) (logs : List Logged) → HasRead first place depth items logs → first ≤ place → length logs ≤ place → items ≡ map entry_of (drop first (entries_of logs))
read_end first place depth items logs read low all =
    let es : List LogEntry = entries_of logs in
    let few : length (drop first es) ≤ place - first = (let left = length-drop first es in let n = said_count 0 [] logs in omega (arith, left, n, low, all)) in
    read.items ∙ ap (map entry_of) (take_all (place - first) (drop first es) few)

-- ---- one record

module _ (v : Version) (first : ℕ) (logs : List Logged) (is : lawful.IsLawful v first logs) (records : List Numbered) (are : map packed logs ≡ bytes_of records) where
  pub as_many : length logs ≡ length records
  as_many = sym (length-map logs packed) ∙ ap length are ∙ length-map records (λ (r : Numbered). r.bytes)

  bytes_at : (place : ℕ) → place < length records → packed (logged_at logs place) ≡ (record_at records place).bytes
  bytes_at place within =
      let inside : place < length logs = (let n = as_many in omega (arith, n, within)) in
      sym (get_or-map packed logs place no_logged [] inside)
      ∙ ap (λ l. get_or l place []) are
      ∙ get_or-map (λ (r : Numbered). r.bytes) records place no_record [] within

  pub of_record : (place : ℕ) (P : Logged → Type 0) → place < length records → OfLog (record_at records place).bytes P → P (logged_at logs place)
  of_record place P within of =
      let inside : place < length logs = (let n = as_many in omega (arith, n, within)) in
      of (logged_at logs place) (All-from_recursion IsRecorded logs is.recorded place no_logged inside) (bytes_at place within)

  pub depth_small : (place : ℕ) → place < length records → (log_at (entries_of logs) place).depth ≤ 31
  depth_small place within =
      All-from_recursion (λ (e : LogEntry). e.depth ≤ 31) (entries_of logs) (said_shallow 0 [] logs is.shallow) place no_entry (let n = as_many in let m = said_count 0 [] logs in omega (arith, n, m, within))

  -- the first place is small
  pub first_small : (length records ≡ 0 → first ≡ 0) → (0 < length records → first < length records) → first ≤ 31
  first_small none some =
      elim (cases_lt 0 (length records)) as (λ _. first ≤ 31) [
        | inl more ↦
            let within : first < length records = some more in
            let inside : first < length logs = (let n = as_many in omega (arith, n, within)) in
            let deep = first_depth logs first inside is.full is.base in
            let low = depth_small first within in
            omega (arith, deep, low)
        | inr zero_count ↦ (let start = none (omega (arith, zero_count)) in omega (arith, start))
      ]
