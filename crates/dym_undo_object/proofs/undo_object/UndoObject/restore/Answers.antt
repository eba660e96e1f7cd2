use Rattle.std.proofs.Common.{◌≡◌, ◌+◌, Result, Ok, Err, OnErr, ℕ, refl, ap, subst, ◌∙◌}
use Rattle.dym_base.specs.declared.command.Command.TheVariants.{Restore}
use Rattle.dym_base.specs.declared.reply.Refusal.{Refusal}
use Rattle.dym_heap.specs.Meaning.{HeapMeaning}
use Rattle.dym_undo.specs.Answers.{restored_reply}
use Rattle.dym_undo.specs.UndoLogs.{UndoMeaning}
use Rattle.dym_undo_object.specs.Meaning.{UndoObjectMeaning, IsStep, counted, step_by}
use Rattle.dym_undo_object.proofs.Wholes.{log_whole}
use Rattle.dym_undo_object.proofs.undo_object.UndoObject.restore.Goals as goal

refused_as : (r : Result ℕ Refusal) (heap new : HeapMeaning) (u new_u : UndoMeaning) (ran : ℕ) (old : UndoObjectMeaning)
    → record { heap = heap; logs = u.logs; ran = ran } ≡ old → OnErr r ((new_u ≡ u) × (new ≡ heap))
    → OnErr r (record { heap = new; logs = new_u.logs; ran = ran + 1 } ≡ counted old)
refused_as (Ok time) heap new u new_u ran old view same = tt
refused_as (Err why) heap new u new_u ran old view same = (λ i. record { heap = same.1 i; logs = (same.0 i).logs; ran = ran + 1 }) ∙ ap counted view

pub returns : goal.returns
returns g c =
    let o = c.self.inside in
    let e = c.restore.ensures in
    let before : UndoObjectMeaning = record { heap = o.heap; logs = o.undo.logs; ran = o.ran } in
    let after : UndoObjectMeaning = record { heap = c.restore.new.heap; logs = c.restore.new.self.logs; ran = o.ran + 1 } in
    let step : IsStep before after (Restore c.args.time) = record { object = e.after; ran = refl; heap = e.rest } in
    record {
      reply = subst (λ (x : UndoObjectMeaning). restored_reply c.restore.result ≡ (step_by x (Restore c.args.time)).reply) c.self.view_is e.answer;
      step = subst (λ (x : UndoObjectMeaning). IsStep x after (Restore c.args.time)) c.self.view_is step;
      refused = refused_as c.restore.result o.heap c.restore.new.heap o.undo c.restore.new.self o.ran c.args.self.now c.self.view_is e.refused;
      whole = log_whole before after (Restore c.args.time) refl c.self.invariant.whole step e.sound;
    }

pub invariant_of-self : goal.invariant_of-self
invariant_of-self g c = record { whole = (returns g c).whole; belongs = c.restore.ensures.belongs }
