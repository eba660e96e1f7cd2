use Rattle.std.proofs.Common.{◌≡◌, subst, ◌∙◌}
use Rattle.dym_heap.specs.Meaning.{HeapMeaning}
use Rattle.dym_chain.specs.Chains.{object_of}
use Rattle.dym_object.specs.Meaning.{ObjectMeaning, step_by}
use Rattle.dym_object.proofs.Calls.{step_here, whole_here, replied_here}
use Rattle.dym_object.proofs.Steps.{to_heap, reply_is}
use Rattle.dym_object.proofs.object.Object.step.Goals as goal

pub returns-clause-reply : goal.returns-clause-reply
returns-clause-reply g c =
    let h : HeapMeaning = c.self.inside.heap in
    let same = reply_is h.version h.quota (object_of h.state c.self.inside.chain) c.args.command.now (to_heap c.args.command.now c.requires.command) in
    subst (λ (o : ObjectMeaning). c.step.result ≡ (step_by o c.args.command.now).reply) c.self.view_is (c.step.ensures.reply ∙ same)

pub returns-clause-step : goal.returns-clause-step
returns-clause-step g c =
    let h : HeapMeaning = c.self.inside.heap in
    step_here c.steps_keep_whole.ensures h c.step.new.self c.self.inside.chain c.self.inside.ran c.args.command.now (to_heap c.args.command.now c.requires.command) c.step.ensures.after c.step.ensures.sound c.self.invariant c.args.self.now c.self.view_is

pub returns-clause-refused : goal.returns-clause-refused
returns-clause-refused g c =
    let h : HeapMeaning = c.self.inside.heap in
    replied_here c.step.result h c.step.new.self c.self.inside.chain c.self.inside.ran c.args.self.now c.self.view_is c.step.ensures.refused

pub invariant_of-self : goal.invariant_of-self
invariant_of-self g c =
    let h : HeapMeaning = c.self.inside.heap in
    whole_here c.steps_keep_whole.ensures h c.step.new.self c.self.inside.chain c.self.inside.ran c.args.command.now (to_heap c.args.command.now c.requires.command) c.step.ensures.after c.step.ensures.sound c.self.invariant

pub returns-clause-whole : goal.returns-clause-whole
returns-clause-whole g c = invariant_of-self g c
