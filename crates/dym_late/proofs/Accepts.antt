-- An event is accepted: the heap and its logs go back to where it can run.
use Rattle.std.proofs.Common.{◌≡◌, ℕ, zero, suc, ◌+◌, ◌-◌, ◌*◌, ◌/◌, ◌<◌, ◌≤◌, inl, inr, cond, Some, None, List, [], ◌∷◌, ◌++◌, length, take, slice_get, insert, refl, ap, sym, subst, ◌∙◌, arith, length-append}
use Rattle.std.specs.FinSet as FinSet
use Rattle.std.proofs.lemmas.Bool.{cases_lt, lt-ltb, le-ltb, eq-eqb, ne_eqb}
use Rattle.std.proofs.lemmas.List.{length-take}
use Rattle.std.proofs.lemmas.List.Edits.{get_or-insert_below}
use Rattle.dym_base.specs.HeapStep.{heap_step}
use Rattle.dym_base.specs.Objects.{LogEntry, ObjectState, newest, new_entry, reached, restore, restore_to, empty_heap}
use Rattle.dym_base.specs.declared.command.Kind.TheVariants.{Full}
use Rattle.dym_base.specs.LateRun as LateRun
use Rattle.dym_base.specs.LateRun.{LateEvent, IsEventCommand, events_to, events_before, heap_after, replies_after, log_before, replayed_by}
use Rattle.dym_base.specs.declared.command.Version.TheVariants.{One}
use Rattle.dym_heap.specs.Meaning.{HeapMeaning, IsSound}
use Rattle.dym_chain.specs.Chains.{ChainMeaning, Belongs, object_of}
use Rattle.dym_late.specs.declared.event.Event.{Event}
use Rattle.dym_late.specs.Marks.{last_log_point, oldest_log_point, live_after, AreMarks, start_of}
use Rattle.dym_late.specs.Orders.{no_event, event_at, rank, IsOrder}
use Rattle.dym_late.specs.Timelines.{late_event, late_events, replies_of, IsRun, IsWhole}
use Rattle.dym_late.proofs.Counts.{before_push, before_no, before_rises, before_most, to_most, length_order, order_push, take_order}
use Rattle.dym_late.proofs.Places.{order_grows, old_event, new_event, old_rank, new_rank}
use Rattle.dym_late.proofs.Folds.{reply_there, replayed_push}
use Rattle.dym_late.proofs.Marked.{marks_take, marks_newest, marks_reached, marks_moved, newest_some}
use Rattle.dym_late.proofs.Searches.{many_late}

pub grown_late : (events : List Event) (e : Event) → late_events (events ++ e ∷ []) ≡ late_events events ++ late_event e ∷ []
grown_late [] e = refl
grown_late (f ∷ events) e = ap (λ l. late_event f ∷ l) (grown_late events e)

kept_reply : (events : List Event) (e : Event) (k : ℕ) → k < length events → slice_get (replies_of (events ++ e ∷ [])) k ≡ slice_get (replies_of events) k
kept_reply [] e k within = absurd (omega (arith, within))
kept_reply (f ∷ events) e zero within = refl
kept_reply (f ∷ events) e (suc k) within = kept_reply events e k (omega (arith, within))

-- a restore at the last multiple at or before p

module _ (quota : ℕ) (ordered : List LateEvent) (b p : ℕ) (s : ObjectState) (marks : AreMarks quota ordered b s.logs) (low : b ≤ p / 16) (high : p / 16 + 1 ≤ length s.logs + b) where
  abbrev r : ℕ
  r = reached (log_before p) s.logs

  pub r_is : r + b ≡ p / 16 + 1
  r_is = (let is = marks_reached quota ordered (log_before p) b s.logs marks in omega (arith, is, low, high))

  r_most : r ≤ length s.logs
  r_most = (let is = r_is in omega (arith, is, high))

  kept_is : length (take r s.logs) ≡ r
  kept_is = (let is = length-take r s.logs in let most = r_most in omega (arith, is, most))

  found : (log : LogEntry) × (newest (take r s.logs) ≡ Some log)
  found = newest_some (take r s.logs) (let is = r_is in let kept = kept_is in omega (arith, is, kept, low))

  told : (found.0.time + 16 ≡ 16 * (b + length (take r s.logs))) × (found.0.copy ≡ live_after quota ordered found.0.time)
  told = marks_newest quota ordered b (take r s.logs) found.0 (marks_take quota ordered b r s.logs marks) found.1

  time : found.0.time ≡ log_before p
  time = (let is = told.0 in let kept = kept_is in let all = r_is in omega (arith, is, kept, all))

  object : (restore s (log_before p)).object ≡ record { heap = record { live = found.0.copy; touched = FinSet.empty }; logs = take r s.logs }
  object = ap (λ o. (restore_to s (take r s.logs) o).object) found.1

  pub restored_live : (restore s (log_before p)).object.heap.live ≡ live_after quota ordered (log_before p)
  restored_live = ap (λ (o : ObjectState). o.heap.live) object ∙ told.1 ∙ ap (live_after quota ordered) time

  pub restored_logs : (restore s (log_before p)).object.logs ≡ take r s.logs
  restored_logs = ap (λ (o : ObjectState). o.logs) object

  pub restored_count : length (restore s (log_before p)).object.logs + b ≡ p / 16 + 1
  restored_count = (let is = ap length restored_logs in let kept = kept_is in let all = r_is in omega (arith, is, kept, all))

  pub restored_marks : AreMarks quota ordered b (restore s (log_before p)).object.logs
  restored_marks = subst (AreMarks quota ordered b) (sym restored_logs) (marks_take quota ordered b r s.logs marks)

module _ (bound : ℕ) (events : List Event) (numbers : List ℕ) (heap : HeapMeaning) (chain : ChainMeaning) (whole : IsWhole bound events numbers heap chain) (e : Event) (late_enough : bound ≤ e.time) where
  abbrev late : List LateEvent
  late = late_events events

  abbrev held : ObjectState
  held = object_of heap.state chain

  abbrev ordered : List LateEvent
  ordered = LateRun.order late

  abbrev n : ℕ
  n = length events

  abbrev p : ℕ
  p = events_to e.time late

  abbrev b : ℕ
  b = oldest_log_point bound late

  p_most : p ≤ n
  p_most = (let most = to_most e.time late in let many = many_late events in omega (arith, most, many))

  b_low : b ≤ p / 16
  b_low =
      let rises = before_rises bound e.time late late_enough in
      let most = before_most e.time late in
      omega (arith, rises, most)

  b_high : p < n → p / 16 + 1 ≤ length chain.logs + b
  b_high less = (let kept = whole.run.kept in let few = whole.run.few in omega (arith, kept, few, less))

  -- the log that a straggler goes back to is there
  pub log_there : p < n → 0 < reached (log_before p) chain.logs
  log_there less = (let is = r_is heap.quota ordered b p held whole.run.logs b_low (b_high less) in let low = b_low in omega (arith, is, low))

  same_mark : oldest_log_point bound (late ++ late_event e ∷ []) ≡ b
  same_mark =
      let pushed = before_push bound late (late_event e) in
      let none = before_no bound (late_event e) late_enough in
      ap last_log_point (omega (arith, pushed, none))

  module _ (after : HeapMeaning) (back : ChainMeaning) (ahead : p < n → object_of after.state back ≡ (restore held (log_before p)).object)
      (last : n ≤ p → (after.state ≡ heap.state) × (back.logs ≡ chain.logs)) (heaps : after ≡ record heap { state = after.state; held_ids = after.held_ids })
      (sound : IsSound after) (belongs : Belongs after.version after.quota after.state back) (idle : back.lifted ≡ None) (few : n < 4096) (fits : IsEventCommand e.command) where
    abbrev start : ℕ
    start = start_of n p

    abbrev more : List LateEvent
    more = late ++ late_event e ∷ []

    abbrev again : List LateEvent
    again = LateRun.order more

    start_back : p < n → start ≡ log_before p
    start_back less = ap (λ c. cond c (log_before p) n) (lt-ltb p n less)

    start_last : n ≤ p → start ≡ n
    start_last least = ap (λ c. cond c (log_before p) n) (le-ltb p n least)

    start_most : start ≤ p
    start_most = elim (cases_lt p n) as (λ _. start ≤ p) [
      | inl less ↦ (let is = start_back less in omega (arith, is))
      | inr least ↦ (let is = start_last least in omega (arith, is, least))
    ]

    same_take : (k : ℕ) → k ≤ p → take k again ≡ take k ordered
    same_take k before = take_order k late (late_event e) before

    same_live : (k : ℕ) → k ≤ p → live_after heap.quota again k ≡ live_after heap.quota ordered k
    same_live k before = ap (λ l. (heap_after One heap.quota empty_heap l).live) (same_take k before)

    live : after.state.live ≡ live_after heap.quota again start
    live = elim (cases_lt p n) as (λ _. after.state.live ≡ live_after heap.quota again start) [
      | inl less ↦ (
          let is = start_back less in
          ap (λ (o : ObjectState). o.heap.live) (ahead less)
          ∙ restored_live heap.quota ordered b p held whole.run.logs b_low (b_high less)
          ∙ sym (same_live (log_before p) (omega arith))
          ∙ ap (live_after heap.quota again) (sym is))
      | inr least ↦ (
          let is = start_last least in
          ap (λ s. s.live) (last least).0
          ∙ whole.run.live
          ∙ sym (same_live n least)
          ∙ ap (live_after heap.quota again) (sym is))
    ]

    count : length back.logs + b ≡ last_log_point start + 1
    count = elim (cases_lt p n) as (λ _. length back.logs + b ≡ last_log_point start + 1) [
      | inl less ↦ (
          let is = start_back less in
          let same = ap (λ (o : ObjectState). length o.logs) (ahead less) in
          let kept = restored_count heap.quota ordered b p held whole.run.logs b_low (b_high less) in
          omega (arith, is, same, kept, less, few))
      | inr least ↦ (
          let is = start_last least in
          let same = ap length (last least).1 in
          let kept = whole.run.kept in
          omega (arith, kept, same, ap last_log_point is))
    ]

    marks_late : AreMarks heap.quota ordered b back.logs
    marks_late = elim (cases_lt p n) as (λ _. AreMarks heap.quota ordered b back.logs) [
      | inl less ↦ subst (AreMarks heap.quota ordered b) (sym (ap (λ (o : ObjectState). o.logs) (ahead less))) (restored_marks heap.quota ordered b p held whole.run.logs b_low (b_high less))
      | inr least ↦ subst (AreMarks heap.quota ordered b) (sym (last least).1) whole.run.logs
    ]

    marks : AreMarks heap.quota again b back.logs
    marks = marks_moved heap.quota p ordered again b back.logs same_take (let kept = count in let most = start_most in omega (arith, kept, most)) marks_late

    same_event : (j : ℕ) → j < p → event_at again j ≡ event_at ordered j
    same_event j before =
        ap (λ l. event_at l j) (order_push late (late_event e))
        ∙ get_or-insert_below ordered p (late_event e) no_event j before (let a = length_order late in let c = to_most e.time late in omega (arith, a, c))

    same_reply : (j : ℕ) → j < p → slice_get (replies_after One heap.quota empty_heap again) j ≡ slice_get (replies_after One heap.quota empty_heap ordered) j
    same_reply j before =
        let all = length_order late in
        let longer = length_order more in
        let grown = length-append late (late_event e ∷ []) in
        let most = to_most e.time late in
        reply_there One heap.quota empty_heap again j (omega (arith, longer, grown, most, before))
        ∙ ap (λ l. Some (heap_step One heap.quota (heap_after One heap.quota empty_heap l) (event_at again j).command).reply) (same_take j (omega (arith, before)))
        ∙ ap (λ x. Some (heap_step One heap.quota (heap_after One heap.quota empty_heap (take j ordered)) x.command).reply) (same_event j before)
        ∙ sym (reply_there One heap.quota empty_heap ordered j (omega (arith, all, most, before)))

    rank_same : (k : ℕ) → k < n → rank more k < p → rank more k ≡ rank late k
    rank_same k within before =
        let many = many_late events in
        let in_late : k < length late = omega (arith, many, within) in
        let moved = old_rank late (late_event e) k in_late in
        let t : ℕ = (event_at late k).time in
        elim (cases_lt e.time t) as (λ _. rank more k ≡ rank late k) [
          | inl later ↦ (
              let there = ap (λ i. (event_at late i).time) (whole.run.order.at_rank k in_late) in
              elim (cases_lt (rank late k) p) as (λ _. rank more k ≡ rank late k) [
                | inl less ↦ (let early = whole.run.order.early (rank late k) e.time less in absurd (omega (arith, early, there, later)))
                | inr least ↦ absurd (omega (arith, moved, least, before))
              ])
          | inr sooner ↦ (let none = before_no t (late_event e) sooner in omega (arith, moved, none))
        ]

    replies : (k : ℕ) → k < length (events ++ e ∷ []) → rank more k < start → slice_get (replies_after One heap.quota empty_heap again) (rank more k) ≡ slice_get (replies_of (events ++ e ∷ [])) k
    replies k within reached_by =
        let longer = length-append events (e ∷ []) in
        let most = start_most in
        let before : rank more k < p = omega (arith, reached_by, most) in
        let many = many_late events in
        elim (cases_lt k n) as (λ _. slice_get (replies_after One heap.quota empty_heap again) (rank more k) ≡ slice_get (replies_of (events ++ e ∷ [])) k) [
          | inl less ↦ (
              let same = rank_same k less before in
              let top = p_most in
              same_reply (rank more k) before
              ∙ ap (slice_get (replies_after One heap.quota empty_heap ordered)) same
              ∙ whole.run.replies k less (omega (arith, same, before, top))
              ∙ sym (kept_reply events e k less))
          | inr here ↦ (
              let is : k ≡ length late = omega (arith, here, within, longer, many) in
              let put = ap (rank more) is ∙ new_rank late (late_event e) in
              absurd (omega (arith, put, before)))
        ]

    commands : (k : ℕ) → k < length (events ++ e ∷ []) → IsEventCommand (event_at more k).command
    commands k within =
        let longer = length-append events (e ∷ []) in
        let many = many_late events in
        elim (cases_lt k n) as (λ _. IsEventCommand (event_at more k).command) [
          | inl less ↦ subst (λ (x : LateEvent). IsEventCommand x.command) (sym (old_event late (late_event e) k (omega (arith, many, less)))) (whole.run.commands k less)
          | inr here ↦ (
              let is : k ≡ length late = omega (arith, here, within, longer, many) in
              subst (λ (x : LateEvent). IsEventCommand x.command) (sym (ap (event_at more) is ∙ new_event late (late_event e))) fits)
        ]

    same_quota : after.quota ≡ heap.quota
    same_quota = ap (λ (h : HeapMeaning). h.quota) heaps

    abbrev Replies : ℕ → List LateEvent → Type 0
    Replies w l = (k : ℕ) → k < length (events ++ e ∷ []) → rank l k < start → slice_get (replies_after One w empty_heap (LateRun.order l)) (rank l k) ≡ slice_get (replies_of (events ++ e ∷ [])) k

    begun_at : IsRun start bound (events ++ e ∷ []) (insert numbers p n) after back
    begun_at =
        let grown = sym (grown_late events e) in
        let both : ◌≡◌ {A = ℕ × List LateEvent} (heap.quota, more) (after.quota, late_events (events ++ e ∷ [])) = λ i. (sym same_quota i, grown i) in
        let many = many_late events in
        let longer = length-append events (e ∷ []) in
        let mark = same_mark in
        let kept = count in
        record {
          order = subst (λ l. IsOrder l (insert numbers p n)) grown (subst (λ m. IsOrder more (insert numbers p m)) many (order_grows late (late_event e) numbers whole.run.order));
          commands = subst (λ l. (k : ℕ) → k < length (events ++ e ∷ []) → IsEventCommand (event_at l k).command) grown commands;
          few = omega (arith, longer, few);
          version = ap (λ (h : HeapMeaning). h.version) heaps ∙ whole.run.version;
          sound = sound;
          belongs = belongs;
          idle = idle;
          live = subst (λ (p : ℕ × List LateEvent). after.state.live ≡ live_after p.0 (LateRun.order p.1) start) both live;
          replies = subst (λ (p : ℕ × List LateEvent). Replies p.0 p.1) both replies;
          logs = subst (λ (p : ℕ × List LateEvent). AreMarks p.0 (LateRun.order p.1) (oldest_log_point bound p.1) back.logs) both (subst (λ c. AreMarks heap.quota again c back.logs) (sym mark) marks);
          kept = subst (λ l. length back.logs + oldest_log_point bound l ≡ last_log_point start + 1) grown (omega (arith, mark, kept));
        }

    -- the heap and its logs stand where the events from the start on can run
    pub begun : (run : List Event) (order : List ℕ) → run ≡ events ++ e ∷ [] → order ≡ insert numbers p n → IsRun start bound run order after back
    begun run order grown put =
        subst (λ l. IsRun start bound run l after back) (sym put) (subst (λ l. IsRun start bound l (insert numbers p n) after back) (sym grown) begun_at)

-- how many commands are run, by where they start
pub replayed_is : (n p : ℕ) → p ≤ n → replayed_by n p + start_of n p ≡ n + 1
replayed_is n p most = elim (cases_lt p n) as (λ _. replayed_by n p + start_of n p ≡ n + 1) [
  | inl less ↦ (
      let start = ap (λ c. cond c (log_before p) n) (lt-ltb p n less) in
      let run = ap (λ c. cond c 1 (n + 1 - log_before p)) (ne_eqb p n (omega (arith, less))) in
      omega (arith, start, run, less))
  | inr least ↦ (
      let start = ap (λ c. cond c (log_before p) n) (le-ltb p n least) in
      let run = ap (λ c. cond c 1 (n + 1 - log_before p)) (eq-eqb p n (omega (arith, least, most))) in
      omega (arith, start, run))
]

-- the same by what the calls answer

module _ (bound : ℕ) (events : List Event) (numbers : List ℕ) (heap : HeapMeaning) (chain : ChainMeaning) (whole : IsWhole bound events numbers heap chain) (e : Event) (late_enough : bound ≤ e.time)
    (count place : ℕ) (counted : count ≡ length events) (placed : place ≡ events_to e.time (late_events events)) where
  pub there_at : place < count → 0 < reached (log_before place) chain.logs
  there_at less =
      subst (λ w. 0 < reached (log_before w) chain.logs) (sym placed) (log_there bound events numbers heap chain whole e late_enough (omega (arith, less, counted, placed)))

  pub begun_at_start : (start : ℕ) → start ≡ start_of count place → (after : HeapMeaning) (back : ChainMeaning)
      → (place < count → object_of after.state back ≡ (restore (object_of heap.state chain) (log_before place)).object)
      → (count ≤ place → (after.state ≡ heap.state) × (back.logs ≡ chain.logs)) → after ≡ record heap { state = after.state; held_ids = after.held_ids }
      → IsSound after → Belongs after.version after.quota after.state back → back.lifted ≡ None → length events < 4096 → IsEventCommand e.command
      → (run : List Event) (order : List ℕ) → run ≡ events ++ e ∷ [] → order ≡ insert numbers place count → IsRun start bound run order after back
  begun_at_start start starts after back ahead last heaps sound belongs idle few fits run order grown put =
      let p : ℕ = events_to e.time (late_events events) in
      let at : start ≡ start_of (length events) p = starts ∙ ap (λ w. start_of count w) placed ∙ ap (λ w. start_of w p) counted in
      subst (λ s. IsRun s bound run order after back) (sym at)
      (begun bound events numbers heap chain whole e late_enough after back
      (λ less. subst (λ w. object_of after.state back ≡ (restore (object_of heap.state chain) (log_before w)).object) placed (ahead (omega (arith, less, counted, placed))))
      (λ least. last (omega (arith, least, counted, placed)))
      heaps sound belongs idle few fits run order grown
      (put ∙ ap (λ w. insert numbers w count) placed ∙ ap (λ w. insert numbers p w) counted))

  pub ended : (start : ℕ) → start ≡ start_of count place → (done : List Event) (order : List ℕ) (after : HeapMeaning) (back : ChainMeaning)
      → late_events done ≡ late_events events ++ late_event e ∷ [] → IsRun (length done) bound done order after back
      → after.applied + start ≡ heap.applied + (count + 1) → back.made + start ≤ chain.made + (count + 1) → length events < 4096
      → IsWhole bound done order after back
  ended start starts done order after back same run applied made few =
      let late : List LateEvent = late_events events in
      let p : ℕ = events_to e.time late in
      let many = many_late events in
      let done_many = many_late done in
      let longer = ap length same ∙ length-append late (late_event e ∷ []) in
      let most = to_most e.time late in
      let begins : start ≡ start_of (length late) p = starts ∙ ap (λ w. start_of count w) placed ∙ ap (λ w. start_of w p) (counted ∙ sym many) in
      let by = replayed_is (length late) p most in
      let one_more = ap LateRun.replayed same ∙ replayed_push late (late_event e) in
      let before = whole.applied in
      let applied_few = whole.applied_few in
      let made_few = whole.made_few in
      record {
        run = run;
        applied = omega (arith, applied, one_more, before, by, begins, counted, many);
        applied_few = omega (arith, applied, applied_few, longer, many, done_many, counted, few);
        made_few = omega (arith, made, made_few, longer, many, done_many, counted, few);
      }

-- a heap with no event, of which a full log was taken

pub no_order : IsOrder [] []
no_order = record {
  count = refl;
  number = λ j within. absurd (omega (arith, within));
  event = λ j within. absurd (omega (arith, within));
  rank_of = λ j within. absurd (omega (arith, within));
  within = λ k within. absurd (omega (arith, within));
  at_rank = λ k within. absurd (omega (arith, within));
  early = λ j t before. absurd (omega (arith, before));
  late = λ j t after within. absurd (omega (arith, within));
}

opened_at : (heap : HeapMeaning) (chain : ChainMeaning) (log : LogEntry) → heap.version ≡ One → heap.state.live ≡ empty_heap.live → heap.applied ≡ 0 → IsSound heap → chain.logs ≡ log ∷ [] → log.time ≡ 0 → log.copy ≡ empty_heap.live
    → chain.made ≤ 1 → Belongs heap.version heap.quota heap.state chain → chain.lifted ≡ None → IsWhole 0 [] [] heap chain
opened_at heap chain log version empty applied sound logs time copy made belongs idle =
    let count = ap length logs in
    record {
      run = record {
        order = no_order;
        commands = λ k within. absurd (omega (arith, within));
        few = omega arith;
        version = version;
        sound = sound;
        belongs = belongs;
        idle = idle;
        live = empty;
        replies = λ k within before. absurd (omega (arith, within));
        logs = subst (AreMarks heap.quota [] 0) (sym logs) (time, copy ∙ ap (live_after heap.quota []) (sym time), tt);
        kept = omega (arith, count);
      };
      applied = applied;
      applied_few = omega (arith, applied);
      made_few = omega (arith, made);
    }

pub opened : (heap : HeapMeaning) (chain : ChainMeaning) (after : HeapMeaning) (longer : ChainMeaning) → heap.version ≡ One → heap.state ≡ empty_heap → heap.applied ≡ 0 → chain.logs ≡ [] → chain.made ≡ 0
    → after ≡ record heap { state = after.state } → after.state.live ≡ heap.state.live → longer.logs ≡ chain.logs ++ new_entry (object_of heap.state chain) 0 Full ∷ [] → longer.made ≤ chain.made + 1
    → IsSound after → Belongs after.version after.quota after.state longer → longer.lifted ≡ None → (events : List Event) (order : List ℕ) → events ≡ [] → order ≡ [] → IsWhole 0 events order after longer
opened heap chain after longer version empty applied logs made heaps lives logged more sound belongs idle events order no_events no_order_yet =
    let live : heap.state.live ≡ empty_heap.live = ap (λ s. s.live) empty in
    let whole : IsWhole 0 [] [] after longer =
    opened_at after longer (new_entry (object_of heap.state chain) 0 Full) (ap (λ (h : HeapMeaning). h.version) heaps ∙ version) (lives ∙ live) (ap (λ (h : HeapMeaning). h.applied) heaps ∙ applied) sound
    (logged ∙ ap (λ l. l ++ new_entry (object_of heap.state chain) 0 Full ∷ []) logs) refl live (omega (arith, made, more)) belongs idle in
    subst (λ l. IsWhole 0 l order after longer) (sym no_events) (subst (λ l. IsWhole 0 [] l after longer) (sym no_order_yet) whole)
