use Rattle.std.proofs.Common.{◌≡◌, ◌+◌, refl, ap, subst}
use Rattle.dym_base.specs.declared.command.Command.TheVariants.{Prune}
use Rattle.dym_base.specs.declared.reply.Reply.TheVariants as reply
use Rattle.dym_undo_object.specs.Meaning.{UndoObjectMeaning, IsStep, step_by}
use Rattle.dym_undo_object.proofs.Wholes.{log_whole}
use Rattle.dym_undo_object.proofs.undo_object.UndoObject.prune.Goals as goal

pub returns : goal.returns
returns g c =
    let o = c.self.inside in
    let e = c.prune.ensures in
    let before : UndoObjectMeaning = record { heap = o.heap; logs = o.undo.logs; ran = o.ran } in
    let after : UndoObjectMeaning = record { heap = o.heap; logs = c.prune.new.self.logs; ran = o.ran + 1 } in
    let step : IsStep before after (Prune c.args.bound) = record { object = e.after o.heap.state; ran = refl; heap = refl } in
    record {
      reply = subst (λ (x : UndoObjectMeaning). reply.Dropped c.prune.result ≡ (step_by x (Prune c.args.bound)).reply) c.self.view_is (e.answer o.heap.state);
      step = subst (λ (x : UndoObjectMeaning). IsStep x after (Prune c.args.bound)) c.self.view_is step;
      heap = ap (λ (x : UndoObjectMeaning). x.heap) c.self.view_is;
      whole = log_whole before after (Prune c.args.bound) refl c.self.invariant.whole step c.self.invariant.whole.sound;
    }

pub invariant_of-self : goal.invariant_of-self
invariant_of-self g c =
    let h = c.self.inside.heap in
    record { whole = (returns g c).whole; belongs = c.prune.ensures.belongs h.version h.quota h.state c.self.invariant.belongs }
