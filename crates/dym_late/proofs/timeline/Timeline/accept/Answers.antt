use Rattle.std.proofs.Common.{◌≡◌, length, ap, sym, subst, ◌∙◌, arith, length-append, [], ◌∷◌}
use Rattle.dym_base.specs.LateRun.{events_to}
use Rattle.dym_base.specs.declared.reply.Reply.TheVariants.{Done}
use Rattle.dym_heap.specs.Meaning.{HeapMeaning}
use Rattle.dym_chain.specs.Chains.{ChainMeaning}
use Rattle.dym_late.specs.Timelines.{late_events, IsWhole}
use Rattle.dym_late.proofs.Accepts.{there_at, begun_at_start, ended, grown_late}
use Rattle.dym_late.proofs.timeline.Timeline.accept.Goals as goal

pub drop_logs_after-start-requires-clause-reached : goal.drop_logs_after-start-requires-clause-reached
drop_logs_after-start-requires-clause-reached g c =
    let counted : c.len-count.result ≡ length c.args.self.now.events.items = omega (arith, c.len-count.ensures) in
    let placed : c.count_to-place.result ≡ events_to c.args.time (late_events c.args.self.now.events.items) = c.count_to-place.ensures.count ∙ ap (λ l. events_to c.args.time (late_events l)) c.deref.ensures.value in
    there_at _ _ _ _ _ c.requires.whole (record { time = c.args.time; command = c.args.command; reply = Done }) c.requires.time _ _ counted placed

pub replay-requires-clause-run : goal.replay-requires-clause-run
replay-requires-clause-run g c =
    let counted : c.len-count.result ≡ length c.args.self.now.events.items = omega (arith, c.len-count.ensures) in
    let placed : c.count_to-place.result ≡ events_to c.args.time (late_events c.args.self.now.events.items) = c.count_to-place.ensures.count ∙ ap (λ l. events_to c.args.time (late_events l)) c.deref.ensures.value in
    let context = c.drop_logs_after-start.ensures in
    begun_at_start _ _ _ _ _ c.requires.whole (record { time = c.args.time; command = c.args.command; reply = Done }) c.requires.time _ _ counted placed
    c.drop_logs_after-start.result context.start c.drop_logs_after-start.new.heap c.drop_logs_after-start.new.chain context.ahead context.last context.heap context.sound context.belongs context.idle c.requires.room c.requires.command
    c.push.new.self.items c.insert.new.self.items c.in_ok-push.ensures.items c.in_ok-insert.ensures.items

pub returns-clause-whole : goal.returns-clause-whole
returns-clause-whole g c =
    let counted : c.len-count.result ≡ length c.args.self.now.events.items = omega (arith, c.len-count.ensures) in
    let placed : c.count_to-place.result ≡ events_to c.args.time (late_events c.args.self.now.events.items) = c.count_to-place.ensures.count ∙ ap (λ l. events_to c.args.time (late_events l)) c.deref.ensures.value in
    let context = c.drop_logs_after-start.ensures in
    let run = c.in_ok-replay.ensures in
    let same = run.events ∙ ap late_events c.in_ok-push.ensures.items ∙ grown_late c.args.self.now.events.items (record { time = c.args.time; command = c.args.command; reply = Done }) in
    let applied_before = ap (λ (h : HeapMeaning). h.applied) context.heap in
    let made_before = ap (λ (k : ChainMeaning). k.made) context.chain in
    let applied = run.applied in
    let made = run.made in
    let grown = length-append c.args.self.now.events.items (record { time = c.args.time; command = c.args.command; reply = Done } ∷ []) in
    let pushed = ap length c.in_ok-push.ensures.items in
    subst (λ b. IsWhole b c.replay.new.self.events.items c.replay.new.self.order.items c.replay.new.self.heap c.replay.new.self.chain) (sym run.bound)
    (subst (λ o. IsWhole c.args.self.now.bound c.replay.new.self.events.items o c.replay.new.self.heap c.replay.new.self.chain) (sym (ap (λ v. v.items) run.order))
    (ended _ _ _ _ _ c.requires.whole (record { time = c.args.time; command = c.args.command; reply = Done }) c.requires.time _ _ counted placed
    c.drop_logs_after-start.result context.start c.replay.new.self.events.items c.insert.new.self.items c.replay.new.self.heap c.replay.new.self.chain same run.run
    (omega (arith, applied, applied_before, pushed, grown, counted)) (omega (arith, made, made_before, pushed, grown, counted)) c.requires.room))
