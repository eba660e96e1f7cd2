use Rattle.std.proofs.Common.{ap, sym, subst, ◌∙◌}
use Rattle.dym_heap.specs.Meaning.{HeapMeaning}
use Rattle.dym_heap.specs.Touches.{all_touched}
use Rattle.dym_undo.specs.UndoLogs.{Belongs}
use Rattle.dym_undo_object.specs.Meaning.{UndoObjectMeaning}
use Rattle.dym_undo_object.proofs.Touched.{belongs_touched, all_kept}
use Rattle.dym_undo_object.proofs.Wholes.{touched_whole}
use Rattle.dym_undo_object.proofs.undo_object.UndoObject.touch_all.Goals as goal

pub returns-clause-touched : goal.returns-clause-touched
returns-clause-touched g c =
    (λ i. record { heap = c.touch_all.ensures.touched i; logs = c.keep_live.ensures.logs i; ran = c.self.inside.ran })
    ∙ ap (λ (o : UndoObjectMeaning). record o { heap = record o.heap { state = all_touched o.heap.state } }) c.self.view_is

pub invariant_of-self : goal.invariant_of-self
invariant_of-self g c =
    let h = c.self.inside.heap in
    let u = c.keep_live.new.undo in
    record {
      whole = touched_whole h c.touch_all.new.self c.self.inside.undo.logs u.logs c.self.inside.ran (all_touched h.state) c.self.invariant.whole
          c.touch_all.ensures.touched c.touch_all.ensures.sound c.keep_live.ensures.logs;
      belongs = subst (λ (m : HeapMeaning). Belongs m.version m.quota m.state u) (sym c.touch_all.ensures.touched)
          (belongs_touched h.version h.quota h.state (all_touched h.state).touched u (all_kept h.state u c.keep_live.ensures.kept) c.keep_live.ensures.belongs);
    }

pub returns-clause-whole : goal.returns-clause-whole
returns-clause-whole g c = (invariant_of-self g c).whole
