use Rattle.dym_base.specs.declared.command.Command.TheVariants.{Malloc}
use Rattle.dym_heap.specs.Replies.{chunk_reply}
use Rattle.std.proofs.Common.{sym, ap, subst, ◌∙◌}
use Rattle.dym_heap.specs.Meaning.{HeapMeaning}
use Rattle.dym_undo_object.specs.Keeps.{IsLiveIn}
use Rattle.dym_undo_object.proofs.HeapChanges.{Makes, mallocs, made_ok}
use Rattle.dym_base.specs.HeapStep.{malloc}
use Rattle.dym_undo_object.proofs.Calls.{called, belongs_new}
use Rattle.dym_undo_object.proofs.undo_object.UndoObject.malloc.Goals as goal

pub keep_made-requires-clause-quota : goal.keep_made-requires-clause-quota
keep_made-requires-clause-quota g c = c.self.invariant.belongs.quota_same ∙ sym (ap (λ (m : HeapMeaning). m.quota) c.malloc-answer.ensures.after)

pub keep_made-requires-clause-live : goal.keep_made-requires-clause-live
keep_made-requires-clause-live g c =
    let h = c.self.inside.heap in
    let made = c.ok.ensures.value ∙ made_ok c.malloc-answer.result in
    subst (λ (m : HeapMeaning). IsLiveIn m.state c.ok.result) (sym c.malloc-answer.ensures.after)
    (subst (λ o. IsLiveIn (malloc h.version h.quota h.state c.args.len).heap o) (sym made)
    (mallocs h.version h.quota h.state c.args.len c.malloc-answer.result c.malloc-answer.ensures.reply).live)

pub returns : goal.returns
returns g c =
    let o = c.self.inside in
    let e = c.malloc-answer.ensures in
    let t = called o.heap o.undo.logs o.ran c.args.self.now c.self.view_is c.self.invariant.whole
    c.malloc-answer.result (chunk_reply c.malloc-answer.result) c.malloc-answer.new.self c.keep_made.new.undo.logs (Malloc c.args.len) tt e.after e.sound e.reply
    e.refused c.keep_made.ensures.logs in
    record { reply = t.reply; step = t.step; refused = t.refused; whole = t.whole }

pub invariant_of-self : goal.invariant_of-self
invariant_of-self g c =
    let h = c.self.inside.heap in
    let made = c.ok.ensures.value ∙ made_ok c.malloc-answer.result in
    let m = subst (λ o. Makes o h.state (malloc h.version h.quota h.state c.args.len).heap) (sym made)
    (mallocs h.version h.quota h.state c.args.len c.malloc-answer.result c.malloc-answer.ensures.reply) in
    record {
      whole = (returns g c).whole;
      belongs = belongs_new h c.malloc-answer.new.self (Malloc c.args.len) c.keep_made.new.undo c.malloc-answer.ensures.after
          (c.keep_made.ensures.kept h.version h.quota h.state _ c.self.invariant.belongs m.dead m.differs);
    }
