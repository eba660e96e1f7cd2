-- What a whole heap of late events tells its callers, and what a commit leaves of it.
use Rattle.std.proofs.Common.{◌≡◌, ℕ, ◌+◌, ◌-◌, ◌<◌, ◌≤◌, Bool, Some, None, option_map, List, length, get_or, take, drop, refl, ap, sym, subst, ◌∙◌, arith}
use Rattle.std.proofs.Math.Seq.{take-length}
use Rattle.std.proofs.lemmas.List.{length-drop}
use Rattle.std.proofs.lemmas.Option.{slice_get-map, slice_get_read}
use Rattle.dym_base.specs.Objects.{empty_heap, reached}
use Rattle.dym_base.specs.LateRun as LateRun
use Rattle.dym_base.specs.LateRun.{LateEvent, events_before, heap_after, replies_after, reply_at, late_reply}
use Rattle.dym_base.specs.declared.command.Version.TheVariants.{One}
use Rattle.dym_heap.specs.Meaning.{HeapMeaning}
use Rattle.dym_chain.specs.Chains.{ChainMeaning, Belongs}
use Rattle.dym_late.specs.declared.event.Event.{Event}
use Rattle.dym_late.specs.Marks.{oldest_log_point, AreMarks}
use Rattle.dym_late.specs.Meaning.{LateMeaning, IsLate}
use Rattle.dym_late.specs.Timelines.{late_events, IsWhole}
use Rattle.dym_late.proofs.Counts.{length_order, before_rises, before_most, to_most}
use Rattle.dym_late.proofs.Places.{place_is}
use Rattle.dym_late.proofs.Marked.{marks_reached, marks_drop, marks_from}
use Rattle.dym_late.proofs.Searches.{many_late}

module _ (bound : ℕ) (events : List Event) (numbers : List ℕ) (heap : HeapMeaning) (chain : ChainMeaning) (whole : IsWhole bound events numbers heap chain) where
  abbrev late : List LateEvent
  late = late_events events

  all : take (length events) (LateRun.order late) ≡ LateRun.order late
  all =
      let count = length_order late in
      let many = many_late events in
      let same : length events ≡ length (LateRun.order late) = omega (arith, count, many) in
      ap (λ n. take n (LateRun.order late)) same ∙ take-length (LateRun.order late)

  whole_late : (broken : Bool) → IsLate (record { heap = heap; events = late; bound = bound; broken = broken })
  whole_late broken = record {
    version = whole.run.version;
    sound = whole.run.sound;
    live = whole.run.live ∙ ap (λ l. (heap_after One heap.quota empty_heap l).live) all;
    applied = whole.applied;
    few = (let few = whole.run.few in let many = many_late events in omega (arith, few, many));
    commands = λ k within. whole.run.commands k (let many = many_late events in omega (arith, many, within));
  }

  -- as the meaning of a heap of late events has it
  pub is_late : (broken : Bool) (m : LateMeaning) → record { heap = heap; events = late; bound = bound; broken = broken } ≡ m → IsLate m
  is_late broken m is = subst IsLate is (whole_late broken)

  reply_known : (k : ℕ) (x : Event) → k < length events → x ≡ get_or events k x → late_reply One heap.quota late k ≡ Some x.reply
  reply_known k x within there =
      let many = many_late events in
      let in_late : k < length late = omega (arith, many, within) in
      let place = whole.run.order.within k in_late in
      ap (reply_at (replies_after One heap.quota empty_heap (LateRun.order late))) (place_is late k in_late)
      ∙ whole.run.replies k within (omega (arith, many, place))
      ∙ slice_get-map (λ (e : Event). e.reply) events k
      ∙ ap (λ o. option_map (λ (e : Event). e.reply) o) (slice_get_read events (length events) k x refl within there)

  pub has_reply : (broken : Bool) (m : LateMeaning) → record { heap = heap; events = late; bound = bound; broken = broken } ≡ m → (k : ℕ) (x : Event) → k < length events → x ≡ get_or events k x → late_reply One m.heap.quota m.events k ≡ Some x.reply
  has_reply broken m is k x within there = subst (λ (m : LateMeaning). late_reply One m.heap.quota m.events k ≡ Some x.reply) is (reply_known k x within there)

  module _ (raised position : ℕ) (up : bound ≤ raised) (here : position ≡ events_before raised late) where
    abbrev dropped : ℕ
    dropped = reached position chain.logs - 1

    -- how many logs a commit drops
    pub drops : dropped + oldest_log_point bound late ≡ oldest_log_point raised late
    drops =
        let kept = whole.run.kept in
        let few = whole.run.few in
        let count = marks_reached heap.quota (LateRun.order late) position (oldest_log_point bound late) chain.logs whole.run.logs in
        let rises = before_rises bound raised late up in
        let most = before_most raised late in
        let top = to_most raised late in
        let many = many_late events in
        omega (arith, kept, few, count, rises, most, top, many, here)

    fits : dropped ≤ length chain.logs
    fits =
        let kept = whole.run.kept in
        let count = marks_reached heap.quota (LateRun.order late) position (oldest_log_point bound late) chain.logs whole.run.logs in
        omega (arith, kept, count)

    pub committed : (back : ChainMeaning) → back.logs ≡ drop dropped chain.logs → back.made ≡ chain.made → Belongs heap.version heap.quota heap.state back → back.lifted ≡ None → IsWhole raised events numbers heap back
    committed back logs made belongs idle =
        let kept = whole.run.kept in
        let gone = drops in
        let most = fits in
        let left = length-drop dropped chain.logs in
        let count = ap length logs in
        let made_few = whole.made_few in
        record {
          run = record {
            order = whole.run.order;
            commands = whole.run.commands;
            few = whole.run.few;
            version = whole.run.version;
            sound = whole.run.sound;
            belongs = belongs;
            idle = idle;
            live = whole.run.live;
            replies = whole.run.replies;
            logs = subst (AreMarks heap.quota (LateRun.order late) (oldest_log_point raised late)) (sym logs)
                (marks_from heap.quota (LateRun.order late) (oldest_log_point bound late + dropped) (oldest_log_point raised late) (drop dropped chain.logs) (omega (arith, gone)) (marks_drop heap.quota (LateRun.order late) (oldest_log_point bound late) dropped chain.logs most whole.run.logs));
            kept = omega (arith, kept, gone, most, left, count);
          };
          applied = whole.applied;
          applied_few = whole.applied_few;
          made_few = omega (arith, made, made_few);
        }
