use Rattle.dym_undo_object.proofs.LogSteps.{logged_whole}
use Rattle.dym_undo_object.proofs.undo_object.UndoObject.log_as.Goals as goal

pub invariant_of-self : goal.invariant_of-self
invariant_of-self g c =
    let o = c.self.inside in
    let l = c.log-answer in
    record {
      whole = logged_whole o.heap l.new.heap o.undo l.new.self o.ran c.args.time c.self.invariant.whole l.ensures.sound l.ensures.rest c.args.want l.result
          l.ensures.after l.ensures.unchanged;
      belongs = l.ensures.belongs;
    }

pub returns-then-ne-clause-whole : goal.returns-then-ne-clause-whole
returns-then-ne-clause-whole g c = (invariant_of-self g c).whole
