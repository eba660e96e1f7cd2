use Rattle.dym_base.specs.declared.command.Command.TheVariants.{Realloc}
use Rattle.dym_heap.specs.Replies.{moved_reply}
use Rattle.std.proofs.Common.{sym, ap, subst, ◌∙◌}
use Rattle.dym_heap.specs.Meaning.{HeapMeaning}
use Rattle.dym_undo_object.specs.Keeps.{IsLiveIn}
use Rattle.dym_undo_object.proofs.Reallocs.{Moves, reallocs, belongs_between, unwrapped}
use Rattle.dym_base.specs.HeapStep.{realloc}
use Rattle.dym_undo_object.proofs.Calls.{called, belongs_new}
use Rattle.dym_undo_object.proofs.undo_object.UndoObject.realloc.Goals as goal

pub keep_made-requires-clause-quota : goal.keep_made-requires-clause-quota
keep_made-requires-clause-quota g c = c.keep_named.ensures.belongs.quota_same ∙ sym (ap (λ (m : HeapMeaning). m.quota) c.realloc-answer.ensures.after)

pub keep_made-requires-clause-live : goal.keep_made-requires-clause-live
keep_made-requires-clause-live g c =
    let h = c.self.inside.heap in
    let made = c.unwrap_or.ensures ∙ unwrapped c.realloc-answer.result in
    subst (λ (m : HeapMeaning). IsLiveIn m.state c.unwrap_or.result) (sym c.realloc-answer.ensures.after)
    (subst (λ o. IsLiveIn (realloc h.version h.quota h.state c.args.h c.args.len).heap o) (sym made)
    (reallocs h.version h.quota h.state c.args.h c.args.len c.realloc-answer.result c.realloc-answer.ensures.reply).makes.live)

pub returns : goal.returns
returns g c =
    let o = c.self.inside in
    let e = c.realloc-answer.ensures in
    let t = called o.heap o.undo.logs o.ran c.args.self.now c.self.view_is c.self.invariant.whole
    c.realloc-answer.result (moved_reply c.realloc-answer.result) c.realloc-answer.new.self c.keep_made.new.undo.logs (Realloc c.args.h c.args.len) tt e.after e.sound
    e.reply e.refused (c.keep_made.ensures.logs ∙ c.keep_named.ensures.logs) in
    record { reply = t.reply; step = t.step; refused = t.refused; whole = t.whole }

pub invariant_of-self : goal.invariant_of-self
invariant_of-self g c =
    let h = c.self.inside.heap in
    let made = c.unwrap_or.ensures ∙ unwrapped c.realloc-answer.result in
    let m = subst (λ o. Moves c.args.h o h.state (realloc h.version h.quota h.state c.args.h c.args.len).heap) (sym made)
    (reallocs h.version h.quota h.state c.args.h c.args.len c.realloc-answer.result c.realloc-answer.ensures.reply) in
    let between = belongs_between h.version h.quota c.args.h h.state m.between c.keep_named.new.undo c.keep_named.ensures.belongs c.keep_named.ensures.kept m.first in
    record {
      whole = (returns g c).whole;
      belongs = belongs_new h c.realloc-answer.new.self (Realloc c.args.h c.args.len) c.keep_made.new.undo c.realloc-answer.ensures.after
          (c.keep_made.ensures.kept h.version h.quota m.between _ between m.makes.dead m.makes.differs);
    }
