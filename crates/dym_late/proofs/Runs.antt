-- One event more is run, and one log more is taken.
use Rattle.std.proofs.Common.{◌≡◌, ℕ, zero, suc, ◌+◌, ◌*◌, ◌/◌, ◌%◌, ◌<◌, min, ◌⊎◌, inl, inr, Some, None, List, [], ◌∷◌, ◌++◌, length, get_or, set, take, slice_get, refl, ap, sym, subst, ◌∙◌, arith, length-append}
use Rattle.std.proofs.lemmas.Bool.{cases_lt, cases_eq}
use Rattle.std.proofs.Math.ListN.{length-set}
use Rattle.dym_base.specs.Heaps.{HeapState}
use Rattle.dym_base.specs.HeapStep.{heap_step}
use Rattle.dym_base.specs.Objects.{LogEntry, empty_heap, newest, new_entry}
use Rattle.dym_base.specs.LateRun as LateRun
use Rattle.dym_base.specs.LateRun.{LateEvent, heap_after, replies_after}
use Rattle.dym_base.specs.declared.command.Version.TheVariants.{One}
use Rattle.dym_base.specs.declared.command.Kind.{Kind}
use Rattle.dym_heap.specs.Meaning.{HeapMeaning, IsSound}
use Rattle.dym_heap.specs.Replies.{step_of, stepped, counted}
use Rattle.dym_chain.specs.Chains.{ChainMeaning, Belongs, object_of}
use Rattle.dym_chain.specs.ChainLaws.{HeapStepsKeepBelonging}
use Rattle.dym_late.specs.declared.event.Event.{Event}
use Rattle.dym_late.specs.Marks.{last_log_point, oldest_log_point, live_after, AreMarks, IsLogPoint}
use Rattle.dym_late.specs.Orders.{event_at, rank, IsOrder}
use Rattle.dym_late.specs.Timelines.{late_event, late_events, replies_of, IsRunTo}
use Rattle.dym_late.proofs.Lives.{steps_alike}
use Rattle.dym_late.proofs.Counts.{length_order}
use Rattle.dym_late.proofs.Folds.{heap_next, reply_there}
use Rattle.dym_late.proofs.Marked.{marks_push, marks_newest}
use Rattle.dym_late.proofs.Searches.{many_late, late_there}

-- an event that gets another reply

pub same_events : (events : List Event) (k : ℕ) (x y : Event) → k < length events → x ≡ get_or events k x → late_event y ≡ late_event x → late_events (set events k y) ≡ late_events events
same_events [] k x y within there same = absurd (omega (arith, within))
same_events (e ∷ es) zero x y within there same = ap (λ z. z ∷ late_events es) (same ∙ ap late_event there)
same_events (e ∷ es) (suc k) x y within there same = ap (λ l. late_event e ∷ l) (same_events es k x y (omega (arith, within)) there same)

pub new_reply : (events : List Event) (k : ℕ) (y : Event) → k < length events → slice_get (replies_of (set events k y)) k ≡ Some y.reply
new_reply [] k y within = absurd (omega (arith, within))
new_reply (e ∷ es) zero y within = refl
new_reply (e ∷ es) (suc k) y within = new_reply es k y (omega (arith, within))

pub old_reply : (events : List Event) (k j : ℕ) (y : Event) → (j ≡ k → ⊥) → slice_get (replies_of (set events k y)) j ≡ slice_get (replies_of events) j
old_reply [] k j y other = refl
old_reply (e ∷ es) zero zero y other = absurd (other refl)
old_reply (e ∷ es) zero (suc j) y other = refl
old_reply (e ∷ es) (suc k) zero y other = refl
old_reply (e ∷ es) (suc k) (suc j) y other = old_reply es k j y (λ is. other (ap suc is))

module _ (n q m bound : ℕ) (next : q ≡ suc n) (events : List Event) (numbers : List ℕ) (heap : HeapMeaning) (chain : ChainMeaning)
    (is : IsRunTo n m bound events numbers heap chain) (within : n < length events)
    (k : ℕ) (names : k ≡ get_or numbers n 0) (x y : Event) (there : x ≡ get_or events k x) (event : y ≡ record x { reply = (step_of heap x.command).reply })
    (after : HeapMeaning) (stepping : after ≡ record (stepped (counted heap) x.command) { held_ids = after.held_ids }) (sound : IsSound after) (law : HeapStepsKeepBelonging) where
  abbrev late : List LateEvent
  late = late_events events

  abbrev ordered : List LateEvent
  ordered = LateRun.order late

  abbrev run : List Event
  run = set events k y

  many : length late ≡ length events
  many = many_late events

  in_late : n < length late
  in_late = (let same = many in omega (arith, same, within))

  k_in : k < length events
  k_in = (let same = many in let small = is.order.number n in_late in omega (arith, same, small, names))

  same_late : late_events run ≡ late
  same_late = same_events events k x y k_in there (ap late_event event)

  same_count : length run ≡ length events
  same_count = length-set events k y

  n_in : n < length ordered
  n_in = (let same = length_order late in let fits = in_late in omega (arith, same, fits))

  command : (event_at ordered n).command ≡ x.command
  command = ap (λ (e : LateEvent). e.command) (is.order.event n in_late ∙ ap (event_at late) (sym names) ∙ late_there events k x k_in there)

  same_quota : after.quota ≡ heap.quota
  same_quota = ap (λ (h : HeapMeaning). h.quota) stepping

  same_version : after.version ≡ heap.version
  same_version = ap (λ (h : HeapMeaning). h.version) stepping

  state : after.state ≡ (heap_step heap.version heap.quota heap.state x.command).heap
  state = ap (λ (h : HeapMeaning). h.state) stepping

  abbrev before : HeapState
  before = heap_after One heap.quota empty_heap (take n ordered)

  in_one : heap_step heap.version heap.quota heap.state x.command ≡ heap_step One heap.quota heap.state x.command
  in_one = ap (λ v. heap_step v heap.quota heap.state x.command) is.version

  in_order : heap_step One heap.quota before x.command ≡ heap_step One heap.quota before (event_at ordered n).command
  in_order = ap (heap_step One heap.quota before) (sym command)

  live : after.state.live ≡ live_after heap.quota ordered q
  live =
      ap (λ (s : HeapState). s.live) state
      ∙ ap (λ a. a.heap.live) in_one
      ∙ (steps_alike One heap.quota heap.state before x.command is.live).live
      ∙ ap (λ a. a.heap.live) in_order
      ∙ ap (λ (s : HeapState). s.live) (sym (heap_next One heap.quota empty_heap ordered n n_in))
      ∙ ap (live_after heap.quota ordered) (sym next)

  reply : slice_get (replies_after One heap.quota empty_heap ordered) n ≡ Some y.reply
  reply =
      reply_there One heap.quota empty_heap ordered n n_in
      ∙ ap (λ a. Some a.reply) (sym in_order)
      ∙ ap Some (sym (steps_alike One heap.quota heap.state before x.command is.live).reply)
      ∙ ap (λ a. Some a.reply) (sym in_one)
      ∙ ap (λ (e : Event). Some e.reply) (sym event)

  replies : (j : ℕ) → j < length events → rank late j < q → slice_get (replies_after One heap.quota empty_heap ordered) (rank late j) ≡ slice_get (replies_of run) j
  replies j fits reached =
      let same = many in
      let in_late_j : j < length late = omega (arith, same, fits) in
      elim (cases_eq (rank late j) n) as (λ _. slice_get (replies_after One heap.quota empty_heap ordered) (rank late j) ≡ slice_get (replies_of run) j) [
        | inl here ↦ (
            let mine : k ≡ j = names ∙ ap (λ i. get_or numbers i 0) (sym here) ∙ is.order.at_rank j in_late_j in
            ap (slice_get (replies_after One heap.quota empty_heap ordered)) here ∙ reply ∙ sym (new_reply events k y k_in) ∙ ap (slice_get (replies_of run)) mine)
        | inr other ↦ (
            let apart : j ≡ k → ⊥ = λ e. other (ap (rank late) (e ∙ names) ∙ is.order.rank_of n in_late) in
            is.replies j fits (omega (arith, reached, other, next)) ∙ sym (old_reply events k j y apart))
      ]

  both : ◌≡◌ {A = ℕ × List LateEvent} (heap.quota, late) (after.quota, late_events run)
  both = λ i. (sym same_quota i, sym same_late i)

  -- after the next event of the order
  pub event_run : IsRunTo q m bound run numbers after chain
  event_run = record {
    order = subst (λ l. IsOrder l numbers) (sym same_late) is.order;
    commands = λ j fits. (let same = same_count in subst (λ l. LateRun.IsEventCommand (event_at l j).command) (sym same_late) (is.commands j (omega (arith, same, fits))));
    few = (let same = same_count in let most = is.few in omega (arith, same, most));
    version = same_version ∙ is.version;
    sound = sound;
    belongs =
        subst (λ v. Belongs v after.quota after.state chain) (sym same_version)
        (subst (λ q. Belongs heap.version q after.state chain) (sym same_quota)
        (subst (λ s. Belongs heap.version heap.quota s chain) (sym state) (law heap.version heap.quota heap.state x.command chain is.belongs)));
    idle = is.idle;
    live = subst (λ (p : ℕ × List LateEvent). after.state.live ≡ live_after p.0 (LateRun.order p.1) q) both live;
    replies = subst (λ (p : ℕ × List LateEvent). (j : ℕ) → j < length run → rank p.1 j < q → slice_get (replies_after One p.0 empty_heap (LateRun.order p.1)) (rank p.1 j) ≡ slice_get (replies_of run) j) both
        (λ j fits reached. (let same = same_count in replies j (omega (arith, same, fits)) reached));
    logs = subst (λ (p : ℕ × List LateEvent). AreMarks p.0 (LateRun.order p.1) (oldest_log_point bound p.1) chain.logs) both is.logs;
    kept = subst (λ l. length chain.logs + oldest_log_point bound l ≡ last_log_point m + 1) (sym same_late) is.kept;
  }

-- the logs that are there are those at or before n + 1 events, where no log is taken there
pub none_due : (n q : ℕ) → q ≡ suc n → n < 4096 → (IsLogPoint q → ⊥) → last_log_point q ≡ last_log_point n
none_due n q next few none =
    elim (cases_eq (q % 16) 0) as (λ _. min 255 (q / 16) ≡ min 255 (n / 16)) [
      | inl here ↦ (elim (cases_lt q 4096) as (λ _. min 255 (q / 16) ≡ min 255 (n / 16)) [
        | inl less ↦ absurd (none (here, less))
        | inr last ↦ omega (arith, few, last)
      ])
      | inr other ↦ omega (arith, other)
    ]

pub one_due : (n q : ℕ) → q ≡ suc n → IsLogPoint q → (last_log_point q ≡ last_log_point n + 1) × (16 * last_log_point q ≡ q) × (last_log_point n < 255)
one_due n q next mark = (omega (arith, next, mark.0, mark.1), omega (arith, next, mark.0, mark.1), omega (arith, next, mark.0, mark.1))

pub mark_or_none : (q : ℕ) → IsLogPoint q ⊎ (IsLogPoint q → ⊥)
mark_or_none q =
    elim (cases_eq (q % 16) 0) as (λ _. IsLogPoint q ⊎ (IsLogPoint q → ⊥)) [
      | inl here ↦ (elim (cases_lt q 4096) as (λ _. IsLogPoint q ⊎ (IsLogPoint q → ⊥)) [
        | inl less ↦ inl (here, less)
        | inr last ↦ inr (λ mark. omega (arith, mark.1, last))
      ])
      | inr other ↦ inr (λ mark. other mark.0)
    ]

module _ (n q bound : ℕ) (next : q ≡ suc n) (events : List Event) (numbers : List ℕ) (heap : HeapMeaning) (chain : ChainMeaning) (is : IsRunTo q n bound events numbers heap chain) where
  -- with logs that stand for the order up to here
  run_with : (after : HeapMeaning) (longer : ChainMeaning) → after ≡ record heap { state = after.state } → after.state.live ≡ heap.state.live
      → AreMarks heap.quota (LateRun.order (late_events events)) (oldest_log_point bound (late_events events)) longer.logs → length longer.logs + oldest_log_point bound (late_events events) ≡ last_log_point q + 1
      → IsSound after → Belongs after.version after.quota after.state longer → longer.lifted ≡ None → IsRunTo q q bound events numbers after longer
  run_with after longer heaps lives logs kept sound belongs idle =
      let ordered : List LateEvent = LateRun.order (late_events events) in
      let quota : heap.quota ≡ after.quota = sym (ap (λ (h : HeapMeaning). h.quota) heaps) in
      record {
        order = is.order;
        commands = is.commands;
        few = is.few;
        version = ap (λ (h : HeapMeaning). h.version) heaps ∙ is.version;
        sound = sound;
        belongs = belongs;
        idle = idle;
        live = subst (λ w. after.state.live ≡ live_after w ordered q) quota (lives ∙ is.live);
        replies = subst (λ w. (k : ℕ) → k < length events → rank (late_events events) k < q → slice_get (replies_after One w empty_heap ordered) (rank (late_events events) k) ≡ slice_get (replies_of events) k) quota is.replies;
        logs = subst (λ w. AreMarks w ordered (oldest_log_point bound (late_events events)) longer.logs) quota logs;
        kept = kept;
      }

  -- and it comes after the newest one
  pub log_later : IsLogPoint q → (log : LogEntry) → newest chain.logs ≡ Some log → log.time < q
  log_later mark log last =
      let time = (marks_newest heap.quota (LateRun.order (late_events events)) (oldest_log_point bound (late_events events)) chain.logs log is.logs last).0 in
      let due = one_due n q next mark in
      let more_by_one = due.0 in
      let here = due.1 in
      let kept = is.kept in
      omega (arith, time, more_by_one, here, kept)

  -- after it
  pub logged_run : IsLogPoint q → (kind : Kind) (after : HeapMeaning) (longer : ChainMeaning) → after ≡ record heap { state = after.state } → after.state.live ≡ heap.state.live
      → longer.logs ≡ chain.logs ++ new_entry (object_of heap.state chain) q kind ∷ [] → IsSound after → Belongs after.version after.quota after.state longer → longer.lifted ≡ None
      → IsRunTo q q bound events numbers after longer
  logged_run mark kind after longer heaps lives logs sound belongs idle =
      let ordered : List LateEvent = LateRun.order (late_events events) in
      let b : ℕ = oldest_log_point bound (late_events events) in
      let entry : LogEntry = new_entry (object_of heap.state chain) q kind in
      let due = one_due n q next mark in
      let more_by_one = due.0 in
      let here = due.1 in
      let kept = is.kept in
      let time : q ≡ 16 * (b + length chain.logs) = omega (arith, more_by_one, here, kept) in
      let more = length-append chain.logs (entry ∷ []) in
      let count = ap length logs in
      run_with after longer heaps lives (subst (λ l. AreMarks heap.quota ordered b l) (sym logs) (marks_push heap.quota ordered b chain.logs entry is.logs time is.live))
      (omega (arith, more_by_one, kept, more, count)) sound belongs idle

  -- after the log that is due, if one is
  pub logged_if_due : n < 4096 → (kind : Kind) (after : HeapMeaning) (longer : ChainMeaning) → after ≡ record heap { state = after.state } → after.state.live ≡ heap.state.live
      → (IsLogPoint q → longer.logs ≡ chain.logs ++ new_entry (object_of heap.state chain) q kind ∷ []) → ((IsLogPoint q → ⊥) → longer.logs ≡ chain.logs)
      → IsSound after → Belongs after.version after.quota after.state longer → longer.lifted ≡ None
      → IsRunTo q q bound events numbers after longer
  logged_if_due few kind after longer heaps lives logs none sound belongs idle =
      elim (mark_or_none q) as (λ _. IsRunTo q q bound events numbers after longer) [
        | inl mark ↦ logged_run mark kind after longer heaps lives (logs mark) sound belongs idle
        | inr other ↦ (
            let same = none_due n q next few other in
            let count = ap length (none other) in
            let kept = is.kept in
            run_with after longer heaps lives (subst (λ l. AreMarks heap.quota (LateRun.order (late_events events)) (oldest_log_point bound (late_events events)) l) (sym (none other)) is.logs)
            (omega (arith, same, kept, count)) sound belongs idle)
      ]
