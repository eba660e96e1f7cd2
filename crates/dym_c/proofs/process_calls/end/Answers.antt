use Rattle.std.proofs.Common.{refl, subst, arith}
use Rattle.dym_undo_object.specs.Meaning.{UndoObjectMeaning}
use Rattle.dym_c.specs.ProcessRuns.{HasEnded}
use Rattle.dym_c.proofs.Exports.{not_both}
use Rattle.dym_c.proofs.process_calls.end.Goals as goal

pub returns-in-Ok-clause-ended : goal.returns-in-Ok-clause-ended
returns-in-Ok-clause-ended c =
    let told = c.in-Ok.ensures in
    subst (λ (o : UndoObjectMeaning). HasEnded o c.args.running.now c.end.new.self c.args.out.now.items c.end.new.out.items 0) c.state.view_is (record {
      kept = λ _. told.kept;
      posted = λ _. told.posted;
      replayed = λ _. told.replayed;
      reached = λ _. told.reached;
      idle = (λ e. absurd (omega (arith, e)), λ is. absurd (not_both c.end.result _ _ c.in-Ok.is (c.end.ensures.idle.1 is)));
      many = λ e. absurd (omega (arith, e));
      closed = λ _. told.ended;
      face = c.end.ensures.rest;
      rest = c.end.ensures.others;
      unchanged = λ no. absurd (no refl);
    })
