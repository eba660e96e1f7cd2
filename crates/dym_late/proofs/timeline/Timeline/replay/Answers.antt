use Rattle.std.proofs.Common.{◌≡◌, ◌+◌, ◌<◌, length, set, get_or, ap, subst, ◌∙◌, arith}
use Rattle.dym_base.specs.declared.command.Kind.TheVariants.{Inc}
use Rattle.dym_heap.specs.Meaning.{HeapMeaning}
use Rattle.dym_late.specs.Timelines.{IsRun}
use Rattle.dym_late.proofs.Searches.{many_late}
use Rattle.dym_late.proofs.Runs.{log_later, logged_if_due}
use Rattle.dym_late.proofs.Replays.{ran, still}
use Rattle.dym_late.proofs.timeline.Timeline.replay.Goals as goal

pub log_if_due-requires-clause-belongs : goal.log_if_due-requires-clause-belongs
log_if_due-requires-clause-belongs g c =
    let within : c.loop-place.place < length c.args.self.now.order.items = omega (arith, c.loop-place-test.true, c.len-place-end.ensures) in
    let names : c.index.result.now ≡ get_or c.args.self.now.order.items c.loop-place.place c.index.result.now = c.index.ensures ∙ ap (λ v. get_or v.items c.loop-place.place c.index.result.now) c.loop-place.invariant.order in
    (ran _ _ _ _ _ _ c.loop-place.invariant.run within _ names _ _ c.index_mut-event.ensures.value c.run_event.ensures.event _ c.run_event.ensures.after c.run_event.ensures.sound c.heap_steps_keep_belonging.ensures.step).belongs

pub log_if_due-requires-clause-later : goal.log_if_due-requires-clause-later
log_if_due-requires-clause-later g c =
    let within : c.loop-place.place < length c.args.self.now.order.items = omega (arith, c.loop-place-test.true, c.len-place-end.ensures) in
    let names : c.index.result.now ≡ get_or c.args.self.now.order.items c.loop-place.place c.index.result.now = c.index.ensures ∙ ap (λ v. get_or v.items c.loop-place.place c.index.result.now) c.loop-place.invariant.order in
    log_later c.loop-place.place (c.loop-place.place + 1) c.args.self.now.bound (omega arith) (set c.loop-place.self.events.items c.index.result.now c.run_event.new.event) c.args.self.now.order.items c.run_event.new.heap c.loop-place.self.chain
    (ran _ _ _ _ _ _ c.loop-place.invariant.run within _ names _ _ c.index_mut-event.ensures.value c.run_event.ensures.event _ c.run_event.ensures.after c.run_event.ensures.sound c.heap_steps_keep_belonging.ensures.step)

pub returns-in_err-log_if_due-clause-events : goal.returns-in_err-log_if_due-clause-events
returns-in_err-log_if_due-clause-events g c =
    let within : c.loop-place.place < length c.args.self.now.order.items = omega (arith, c.loop-place-test.true, c.len-place-end.ensures) in
    let names : c.index.result.now ≡ get_or c.args.self.now.order.items c.loop-place.place c.index.result.now = c.index.ensures ∙ ap (λ v. get_or v.items c.loop-place.place c.index.result.now) c.loop-place.invariant.order in
    still _ _ _ _ _ _ c.loop-place.invariant.run within _ names _ _ c.index_mut-event.ensures.value c.run_event.ensures.event _ c.run_event.ensures.after c.run_event.ensures.sound c.heap_steps_keep_belonging.ensures.step ∙ c.loop-place.invariant.events

pub loop-place-preserved : goal.loop-place-preserved
loop-place-preserved g c =
    let within : c.loop-place.place < length c.args.self.now.order.items = omega (arith, c.loop-place-test.true, c.len-place-end.ensures) in
    let names : c.index.result.now ≡ get_or c.args.self.now.order.items c.loop-place.place c.index.result.now = c.index.ensures ∙ ap (λ v. get_or v.items c.loop-place.place c.index.result.now) c.loop-place.invariant.order in
    let same = still _ _ _ _ _ _ c.loop-place.invariant.run within _ names _ _ c.index_mut-event.ensures.value c.run_event.ensures.event _ c.run_event.ensures.after c.run_event.ensures.sound c.heap_steps_keep_belonging.ensures.step in
    let next = ran _ _ _ _ _ _ c.loop-place.invariant.run within _ names _ _ c.index_mut-event.ensures.value c.run_event.ensures.event _ c.run_event.ensures.after c.run_event.ensures.sound c.heap_steps_keep_belonging.ensures.step in
    let few = next.few in
    let count = next.order.count in
    let many = many_late (set c.loop-place.self.events.items c.index.result.now c.run_event.new.event) in
    let kept = c.in_ok-log_if_due.ensures in
    let applied = ap (λ (h : HeapMeaning). h.applied) kept.heap ∙ ap (λ (h : HeapMeaning). h.applied) c.run_event.ensures.after in
    let made = kept.made in
    let applied_before = c.loop-place.invariant.applied in
    let made_before = c.loop-place.invariant.made in
    record {
      run =
          logged_if_due c.loop-place.place (c.loop-place.place + 1) c.args.self.now.bound (omega arith) (set c.loop-place.self.events.items c.index.result.now c.run_event.new.event) c.args.self.now.order.items c.run_event.new.heap c.loop-place.self.chain next (omega (arith, within, few, count, many)) Inc c.log_if_due.new.heap c.log_if_due.new.chain
          kept.heap kept.live kept.logs kept.none kept.sound kept.belongs kept.idle;
      events = same ∙ c.loop-place.invariant.events;
      order = c.loop-place.invariant.order;
      bound = c.loop-place.invariant.bound;
      applied = omega (arith, applied, applied_before);
      made = omega (arith, made, made_before);
      quota = ap (λ (h : HeapMeaning). h.quota) kept.heap ∙ ap (λ (h : HeapMeaning). h.quota) c.run_event.ensures.after ∙ c.loop-place.invariant.quota;
      origin = ap (λ (h : HeapMeaning). h.origin) kept.heap ∙ ap (λ (h : HeapMeaning). h.origin) c.run_event.ensures.after ∙ c.loop-place.invariant.origin;
    }

pub returns-clause-run : goal.returns-clause-run
returns-clause-run g c =
    let run = c.loop-place.invariant.run in
    let count = run.order.count in
    let many = many_late c.loop-place.self.events.items in
    let first = c.requires.run.order.count in
    let first_many = many_late c.args.self.now.events.items in
    let end : c.loop-place.place ≡ length c.loop-place.self.events.items = omega (arith, count, many, first, first_many, c.requires.start, c.loop-place-test.false, c.loop-place.auto.place-end, c.len-place-end.ensures) in
    subst (λ n. IsRun n c.args.self.now.bound c.loop-place.self.events.items c.args.self.now.order.items c.loop-place.self.heap c.loop-place.self.chain) end run
