-- The logs of ordered events: one more, fewer of them, and those at or before a number of events.
use Rattle.std.proofs.Common.{◌≡◌, ℕ, zero, suc, ◌+◌, ◌-◌, ◌*◌, ◌/◌, ◌<◌, ◌≤◌, min, inl, inr, cond, nat_le, Some, List, [], ◌∷◌, ◌++◌, length, take, drop, refl, ap, sym, subst, ◌∙◌, arith}
use Rattle.std.proofs.lemmas.Bool.{cases_lt, le-leb, lt-leb}
use Rattle.std.proofs.lemmas.Option.{none-some, same_Some}
use Rattle.std.proofs.lemmas.List.Sums.{sum_by-cons}
use Rattle.dym_base.specs.Objects.{LogEntry, newest, reached, empty_heap}
use Rattle.dym_base.specs.LateRun.{LateEvent, heap_after}
use Rattle.dym_base.specs.declared.command.Version.TheVariants.{One}
use Rattle.dym_late.specs.Marks.{live_after, AreMarks}

module _ (quota : ℕ) (ordered : List LateEvent) where
  pub marks_push : (b : ℕ) (logs : List LogEntry) (log : LogEntry) → AreMarks quota ordered b logs → log.time ≡ 16 * (b + length logs) → log.copy ≡ live_after quota ordered log.time → AreMarks quota ordered b (logs ++ log ∷ [])
  marks_push b [] log marks time copy = (omega (arith, time), copy, tt)
  marks_push b (first ∷ logs) log marks time copy = (marks.0, marks.1, marks_push (b + 1) logs log marks.2 (omega (arith, time)) copy)

  pub marks_take : (b n : ℕ) (logs : List LogEntry) → AreMarks quota ordered b logs → AreMarks quota ordered b (take n logs)
  marks_take b zero logs marks = tt
  marks_take b (suc n) [] marks = tt
  marks_take b (suc n) (log ∷ logs) marks = (marks.0, marks.1, marks_take (b + 1) n logs marks.2)

  pub marks_from : (b c : ℕ) (logs : List LogEntry) → b ≡ c → AreMarks quota ordered b logs → AreMarks quota ordered c logs
  marks_from b c logs same marks = subst (λ k. AreMarks quota ordered k logs) same marks

  pub marks_drop : (b n : ℕ) (logs : List LogEntry) → n ≤ length logs → AreMarks quota ordered b logs → AreMarks quota ordered (b + n) (drop n logs)
  marks_drop b zero logs few marks = marks_from b (b + 0) logs (omega arith) marks
  marks_drop b (suc n) [] few marks = absurd (omega (arith, few))
  marks_drop b (suc n) (log ∷ logs) few marks = marks_from ((b + 1) + n) (b + suc n) (drop n logs) (omega arith) (marks_drop (b + 1) n logs (omega (arith, few)) marks.2)

  -- the newest log is that of the last multiple
  pub marks_newest : (b : ℕ) (logs : List LogEntry) (log : LogEntry) → AreMarks quota ordered b logs → newest logs ≡ Some log → (log.time + 16 ≡ 16 * (b + length logs)) × (log.copy ≡ live_after quota ordered log.time)
  marks_newest b [] log marks is = absurd (none-some log is)
  marks_newest b (first ∷ []) log marks is =
      let same : first ≡ log = same_Some first log is in
      subst (λ (l : LogEntry). (l.time + 16 ≡ 16 * (b + 1)) × (l.copy ≡ live_after quota ordered l.time)) same (omega (arith, marks.0), marks.1)
  marks_newest b (first ∷ second ∷ logs) log marks is =
      let rest = marks_newest (b + 1) (second ∷ logs) log marks.2 is in
      (omega (arith, rest.0), rest.1)

  reached_cons : (t : ℕ) (log : LogEntry) (logs : List LogEntry) → reached t (log ∷ logs) ≡ cond (nat_le log.time t) 1 0 + reached t logs
  reached_cons t log logs = sum_by-cons (λ (l : LogEntry). cond (nat_le l.time t) 1 0) log logs

  -- how many logs are at or before a number of events
  pub marks_reached : (t b : ℕ) (logs : List LogEntry) → AreMarks quota ordered b logs → reached t logs ≡ min (length logs) (t / 16 + 1 - b)
  marks_reached t b [] marks = omega arith
  marks_reached t b (log ∷ logs) marks =
      let rest = marks_reached t (b + 1) logs marks.2 in
      let first = reached_cons t log logs in
      let time : log.time ≡ 16 * b = marks.0 in
      elim (cases_lt t log.time) as (λ _. reached t (log ∷ logs) ≡ min (length (log ∷ logs)) (t / 16 + 1 - b)) [
        | inl late ↦ (let none = ap {B = ℕ} (λ c. cond c 1 0) (lt-leb log.time t late) in omega (arith, rest, first, none, time, late))
        | inr early ↦ (let one = ap {B = ℕ} (λ c. cond c 1 0) (le-leb log.time t early) in omega (arith, rest, first, one, time, early))
      ]

-- the newest of some logs is there
pub newest_some : (logs : List LogEntry) → 0 < length logs → (log : LogEntry) × (newest logs ≡ Some log)
newest_some [] some = absurd (omega (arith, some))
newest_some (log ∷ []) some = (log, refl)
newest_some (first ∷ second ∷ logs) some = newest_some (second ∷ logs) (omega arith)

-- logs of the events up to p are those of any order that begins with these
pub marks_moved : (quota p : ℕ) (old new : List LateEvent) (b : ℕ) (logs : List LogEntry) → ((k : ℕ) → k ≤ p → take k new ≡ take k old) → 16 * (b + length logs) ≤ p + 16 → AreMarks quota old b logs → AreMarks quota new b logs
marks_moved quota p old new b [] same few marks = tt
marks_moved quota p old new b (log ∷ logs) same few marks =
    let time : log.time ≡ 16 * b = marks.0 in
    let there = same log.time (omega (arith, time, few)) in
    (marks.0, marks.1 ∙ ap (λ l. (heap_after One quota empty_heap l).live) (sym there), marks_moved quota p old new (b + 1) logs same (omega (arith, few)) marks.2)
