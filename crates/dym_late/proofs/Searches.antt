-- What an event at a place of the order tells of how many stand at or before a time; and that a restore finds its log.
use Rattle.std.proofs.Common.{◌≡◌, ℕ, ◌+◌, ◌<◌, ◌≤◌, inl, inr, true, List, length, get_or, take, Result, Ok, Err, is_err, ap, sym, ◌∙◌, arith}
use Rattle.std.proofs.lemmas.Bool.{cases_lt, true≢false}
use Rattle.std.proofs.lemmas.List.{get_or-map, length-map, length-take}
use Rattle.std.proofs.lemmas.List.Sums.{count_by-le-length}
use Rattle.std.specs.Prelude.{nat_le}
use Rattle.dym_base.specs.LateRun.{LateEvent, events_to}
use Rattle.dym_base.specs.Objects.{LogEntry, ObjectState, reached, restore, restore_to}
use Rattle.dym_base.specs.declared.reply.Refusal.{Refusal}
use Rattle.dym_base.specs.declared.reply.Reply.TheVariants as reply
use Rattle.dym_chain.specs.Answers.{restored_reply}
use Rattle.dym_late.specs.declared.event.Event.{Event}
use Rattle.dym_late.specs.Orders.{no_event, event_at, IsOrder}
use Rattle.dym_late.specs.Timelines.{late_event, late_events}
use Rattle.dym_late.proofs.Marked.{newest_some}

pub many_late : (events : List Event) → length (late_events events) ≡ length events
many_late events = length-map events late_event

pub late_there : (events : List Event) (k : ℕ) (x : Event) → k < length events → x ≡ get_or events k x → event_at (late_events events) k ≡ late_event x
late_there events k x within there = get_or-map late_event events k x no_event within ∙ ap late_event (sym there)

module _ (t : ℕ) (events : List Event) (numbers : List ℕ) (is : IsOrder (late_events events) numbers) (j : ℕ) (x : Event) (within : j < length events) (there : x ≡ get_or events (get_or numbers j 0) x) where
  small : get_or numbers j 0 < length events
  small = (let same = many_late events in let in_late = is.number j (omega (arith, same, within)) in omega (arith, same, in_late))

  time : (event_at (late_events events) (get_or numbers j 0)).time ≡ x.time
  time = ap (λ (e : LateEvent). e.time) (late_there events (get_or numbers j 0) x small there)

  pub stands_before : x.time ≤ t → j + 1 ≤ events_to t (late_events events)
  stands_before early =
      let same = time in
      let count = many_late events in
      elim (cases_lt j (events_to t (late_events events))) as (λ _. j + 1 ≤ events_to t (late_events events)) [
        | inl less ↦ omega (arith, less)
        | inr behind ↦ (let late = is.late j t behind (omega (arith, count, within)) in absurd (omega (arith, late, same, early)))
      ]

  pub stands_behind : t < x.time → events_to t (late_events events) ≤ j
  stands_behind later =
      let same = time in
      elim (cases_lt j (events_to t (late_events events))) as (λ _. events_to t (late_events events) ≤ j) [
        | inl less ↦ (let early = is.early j t less in absurd (omega (arith, early, same, later)))
        | inr behind ↦ behind
      ]

pub never_refused : (s : ObjectState) (t : ℕ) (r : Result ℕ Refusal) → 0 < reached t s.logs → restored_reply r ≡ (restore s t).reply → is_err r ≡ true → ⊥
never_refused s t (Ok time) some is err = true≢false (sym err)
never_refused s t (Err why) some is err =
    let kept = take (reached t s.logs) s.logs in
    let most : reached t s.logs ≤ length s.logs = count_by-le-length (λ (e : LogEntry). nat_le e.time t) s.logs in
    let found = newest_some kept (omega (arith, length-take (reached t s.logs) s.logs, most, some)) in
    let at : reply.Refused why ≡ reply.At found.0.time = is ∙ ap (λ o. (restore_to s kept o).reply) found.1 in
    cc
