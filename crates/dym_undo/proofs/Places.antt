-- The kept logs by their places, and what entries tell of the logs that they are of.
use Rattle.std.proofs.Common.{◌≡◌, ℕ, zero, suc, ◌+◌, ◌-◌, ◌<◌, ◌≤◌, inl, inr, Some, List, [], ◌∷◌, ◌++◌, length, take, drop, refl, sym, ap, ◌∙◌, arith, true, false, nat_le, ◌==◌, Option, None, option_map, map, get_or}
use Rattle.std.proofs.lemmas.List.{length-drop, get_or-drop, length-take, length-map, get_or-take, get_or-map}
use Rattle.dym_base.specs.Objects.{LogEntry, newest, reached, next_depth}
use Rattle.dym_base.specs.RunLaws.{Follows, EachFollows}
use Rattle.std.specs.List.{slice_get}
use Rattle.std.specs.List.Sorted.{IsPartitionedBy, IsPartitionPoint}
use Rattle.std.proofs.lemmas.Bool.{cases_lt, le-leb, leb-true, leb-false, cond-true, eq-eqb}
use Rattle.std.proofs.lemmas.Option.{same_Some}
use Rattle.std.proofs.lemmas.List.Elements.{All-from_recursion}
use Rattle.std.proofs.lemmas.List.Sums.{count_by-le-length}
use Rattle.dym_base.specs.declared.command.Kind.{Kind}
use Rattle.dym_base.specs.declared.command.Kind.TheVariants.{Full, Inc}
use Rattle.dym_base.proofs.Runs.{reached_before}
use Rattle.dym_undo.specs.UndoLogs.{entry_of, no_entry, log_at}
use Rattle.dym_undo.specs.declared.entry.Entry.{Entry}

pub follows_at : (logs : List LogEntry) (i : ℕ) → EachFollows logs → suc i < length logs → Follows (log_at logs i) (log_at logs (suc i))
follows_at [] i each within = absurd (omega (arith, within))
follows_at (e ∷ []) i each within = absurd (omega (arith, within))
follows_at (e ∷ f ∷ logs) zero each within = each.0
follows_at (e ∷ f ∷ logs) (suc i) each within = follows_at (f ∷ logs) i each.1 (omega (arith, within))

-- the newest log is the last
pub newest_there : (logs : List LogEntry) (n : ℕ) → length logs ≡ suc n → newest logs ≡ Some (log_at logs n)
newest_there [] n len = absurd (omega (arith, len))
newest_there (e ∷ []) zero len = refl
newest_there (e ∷ []) (suc n) len = absurd (omega (arith, len))
newest_there (e ∷ f ∷ logs) zero len = absurd (omega (arith, len))
newest_there (e ∷ f ∷ logs) (suc n) len = newest_there (f ∷ logs) n (omega (arith, len))

pub newest_push : (logs : List LogEntry) (e : LogEntry) → newest (logs ++ e ∷ []) ≡ Some e
newest_push [] e = refl
newest_push (f ∷ []) e = refl
newest_push (f ∷ g ∷ logs) e = newest_push (g ∷ logs) e

-- entry k is that of log k
pub entry_at : (logs : List LogEntry) (entries : List Entry) (k : ℕ) (d : Entry) → entries ≡ map entry_of logs → k < length logs → get_or entries k d ≡ entry_of (log_at logs k)
entry_at logs entries k d are within = ap (λ l. get_or l k d) are ∙ get_or-map entry_of logs k no_entry d within

pub count_same : (logs : List LogEntry) (entries : List Entry) → entries ≡ map entry_of logs → length entries ≡ length logs
count_same logs entries are = ap length are ∙ length-map logs entry_of

-- times rise from log to log
pub rises : (logs : List LogEntry) (i n : ℕ) → EachFollows logs → i + n < length logs → (log_at logs i).time ≤ (log_at logs (i + n)).time
rises logs i zero each within = (let same : i ≡ i + 0 = omega arith in let E = ap (λ k. (log_at logs k).time) same in omega (arith, E))
rises logs i (suc n) each within =
    let before = rises logs i n each (omega (arith, within)) in
    let next = (follows_at logs (i + n) each (omega (arith, within))).0 in
    let same : suc (i + n) ≡ i + suc n = omega arith in
    let E = ap (λ k. (log_at logs k).time) same in
    omega (arith, before, next, E)

-- how many logs are reached at t
pub reached_is : (t i : ℕ) (logs : List LogEntry) → EachFollows logs → i ≤ length logs
    → ((k : ℕ) → k < i → (log_at logs k).time ≤ t) → ((k : ℕ) → i ≤ k → k < length logs → t < (log_at logs k).time) → i ≡ reached t logs
reached_is t i logs each within low high =
    let r : ℕ = reached t logs in
    let most : r ≤ length logs = count_by-le-length (λ (e : LogEntry). nat_le e.time t) logs in
    let parts = reached_before t logs each in
    elim (cases_lt i r) as (λ _. i ≡ r) [
      | inl less ↦ (
          let here : (log_at (take r logs) i).time ≤ t = All-from_recursion (λ (e : LogEntry). e.time ≤ t) (take r logs) parts.0 i no_entry (omega (arith, length-take r logs, less, most)) in
          let same = ap (λ (e : LogEntry). e.time) (get_or-take r logs i no_entry less) in
          let late = high i (omega arith) (omega (arith, less, most)) in
          absurd (omega (arith, here, same, late)))
      | inr more ↦ (elim (cases_lt r i) as (λ _. i ≡ r) [
        | inl fewer ↦ (
            let here : t < (log_at (drop r logs) 0).time = All-from_recursion (λ (e : LogEntry). t < e.time) (drop r logs) parts.1 0 no_entry (omega (arith, length-drop r logs, fewer, within)) in
            let same = ap (λ (e : LogEntry). e.time) (get_or-drop r logs 0 no_entry) in
            let at : r + 0 ≡ r = omega arith in
            let at_r = ap (λ k. (log_at logs k).time) at in
            let early = low r fewer in
            absurd (omega (arith, here, same, at_r, early)))
        | inr same ↦ omega (arith, more, same)
      ])
    ]

-- the depth of the next log
pub depth_ends : (want : Kind) (log : Option LogEntry) (entry : Entry) → Some entry ≡ option_map entry_of log → 31 ≤ entry.depth → ((e : LogEntry) → log ≡ Some e → e.depth ≤ 31) → 0 ≡ next_depth want log
depth_ends Full log entry is deep small = refl
depth_ends Inc None entry is deep small = refl
depth_ends Inc (Some e) entry is deep small =
    let same : entry.depth ≡ e.depth = ap (λ (x : Entry). x.depth) (same_Some entry (entry_of e) is) in
    let low = small e refl in
    sym (cond-true (e.depth == 31) 0 (e.depth + 1) (eq-eqb e.depth 31 (omega (arith, same, deep, low))))

-- what a binary search over the entries finds
pub partitioned_by : (t : ℕ) (logs : List LogEntry) (entries : List Entry) → entries ≡ map entry_of logs → EachFollows logs → IsPartitionedBy (λ (y : Entry). nat_le y.time t) entries
partitioned_by t logs entries are each i j d before within is =
    let count = count_same logs entries are in
    let at_i = ap (λ (x : Entry). x.time) (entry_at logs entries i d are (omega (arith, count, before, within))) in
    let at_j = ap (λ (x : Entry). x.time) (entry_at logs entries j d are (omega (arith, count, within))) in
    let late : (get_or entries j d).time ≤ t = leb-true (get_or entries j d).time t is in
    let sum : i + (j - i) ≡ j = omega (arith, before) in
    let up = rises logs i (j - i) each (omega (arith, count, within, sum)) in
    let same = ap (λ k. (log_at logs k).time) sum in
    le-leb (get_or entries i d).time t (omega (arith, at_i, at_j, late, up, same))

pub reached_from : (t : ℕ) (logs : List LogEntry) (entries : List Entry) (i : ℕ) → entries ≡ map entry_of logs → EachFollows logs → i ≤ length entries → IsPartitionPoint (λ (y : Entry). nat_le y.time t ≡ true) (λ (y : Entry). nat_le y.time t ≡ false) entries i → i ≡ reached t logs
reached_from t logs entries i are each within point =
    let count = count_same logs entries are in
    let none : Entry = record { time = 0; depth = 0 } in
    reached_is t i logs each (omega (arith, count, within))
    (λ k low. (let here = leb-true (get_or entries k none).time t (point.0 k none (omega arith) low) in
    let same = ap (λ (x : Entry). x.time) (entry_at logs entries k none are (omega (arith, count, within, low))) in
    omega (arith, here, same)))
    (λ k high inside. (let here = leb-false (get_or entries k none).time t (point.1 k none high (omega (arith, count, inside))) in
    let same = ap (λ (x : Entry). x.time) (entry_at logs entries k none are inside) in
    omega (arith, here, same)))

pub got_last : (logs : List LogEntry) (n : ℕ) → n ≡ length logs - 1 → slice_get (map entry_of logs) n ≡ option_map entry_of (newest logs)
got_last [] n is = refl
got_last (e ∷ []) zero is = refl
got_last (e ∷ []) (suc n) is = absurd (omega (arith, is))
got_last (e ∷ f ∷ logs) zero is = absurd (omega (arith, is))
got_last (e ∷ f ∷ logs) (suc n) is = got_last (f ∷ logs) n (omega (arith, is))
