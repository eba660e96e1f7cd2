use Rattle.std.proofs.Common.{◌≡◌, ◌-◌, ◌≤◌, ap, ◌∙◌, arith}
use Rattle.dym_base.specs.LateRun.{events_before}
use Rattle.dym_base.specs.Objects.{reached}
use Rattle.dym_chain.specs.Chains.{ChainMeaning}
use Rattle.dym_late.specs.Timelines.{late_events}
use Rattle.dym_late.proofs.Wholes.{drops, committed}
use Rattle.dym_late.proofs.timeline.Timeline.commit.Goals as goal

pub returns-clause-whole : goal.returns-clause-whole
returns-clause-whole g c =
    let up : c.args.self.now.bound ≤ c.max-self.result = omega (arith, c.max-self.ensures) in
    let here : c.count_before-position.result ≡ events_before c.max-self.result (late_events c.args.self.now.events.items) = c.count_before-position.ensures.count ∙ ap (λ l. events_before c.max-self.result (late_events l)) c.deref.ensures.value in
    committed c.args.self.now.bound c.args.self.now.events.items c.args.self.now.order.items c.args.self.now.heap c.args.self.now.chain c.requires.whole c.max-self.result c.count_before-position.result up here
    c.prune.new.self (ap (λ (k : ChainMeaning). k.logs) c.prune.ensures.after) (ap (λ (k : ChainMeaning). k.made) c.prune.ensures.after)
    (c.prune.ensures.belongs c.args.self.now.heap.version c.args.self.now.heap.quota c.args.self.now.heap.state c.requires.whole.run.belongs) c.prune.ensures.idle

pub returns-clause-dropped : goal.returns-clause-dropped
returns-clause-dropped g c =
    let up : c.args.self.now.bound ≤ c.max-self.result = omega (arith, c.max-self.ensures) in
    let here : c.count_before-position.result ≡ events_before c.max-self.result (late_events c.args.self.now.events.items) = c.count_before-position.ensures.count ∙ ap (λ l. events_before c.max-self.result (late_events l)) c.deref.ensures.value in
    let gone = drops c.args.self.now.bound c.args.self.now.events.items c.args.self.now.order.items c.args.self.now.heap c.args.self.now.chain c.requires.whole c.max-self.result c.count_before-position.result up here in
    let told = c.prune.ensures.answer c.args.self.now.heap.state in
    let same : c.prune.result ≡ reached c.count_before-position.result c.args.self.now.chain.logs - 1 = cc in
    omega (arith, same, gone)
