use Rattle.std.proofs.Common.{◌≡◌, ap, subst}
use Rattle.dym_base.specs.declared.command.Command.TheVariants.{Prune}
use Rattle.dym_base.specs.declared.reply.Reply.TheVariants as reply
use Rattle.dym_heap.specs.Meaning.{HeapMeaning}
use Rattle.dym_chain.specs.Chains.{ChainMeaning}
use Rattle.dym_object.specs.Meaning.{ObjectMeaning, step_by}
use Rattle.dym_object.proofs.Calls.{pruned_here}
use Rattle.dym_object.proofs.object.Object.prune.Goals as goal

pub returns-clause-reply : goal.returns-clause-reply
returns-clause-reply g c =
    subst (λ (o : ObjectMeaning). reply.Dropped c.prune.result ≡ (step_by o (Prune c.args.bound)).reply) c.self.view_is (c.prune.ensures.answer c.self.inside.heap.state)

pub invariant_of-self : goal.invariant_of-self
invariant_of-self g c =
    let h : HeapMeaning = c.self.inside.heap in
    pruned_here h c.self.inside.chain c.prune.new.self c.self.inside.ran c.self.invariant (ap (λ (m : ChainMeaning). m.made) c.prune.ensures.after) c.prune.ensures.idle (c.prune.ensures.belongs h.version h.quota h.state c.self.invariant.belongs) c.prune.ensures.stands

pub returns-clause-whole : goal.returns-clause-whole
returns-clause-whole g c = invariant_of-self g c
