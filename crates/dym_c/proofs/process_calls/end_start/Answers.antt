use Rattle.std.proofs.Common.{◌≡◌, ◌≤◌, ◌<◌, ◌++◌, map, List, Option, Some, Err, ap, sym, subst, ◌∙◌, arith}
use Rattle.dym_base.specs.declared.limits.TheConstants.{COUNT_LIMIT}
use Rattle.dym_undo_object.specs.Meaning.{UndoObjectMeaning}
use Rattle.warp_base.specs.Events.{Each}
use Rattle.warp_base.specs.Histories.{stamped}
use Rattle.warp_base.specs.declared.event.Draft.{Draft}
use Rattle.warp_base.specs.declared.event.Message.{Message}
use Rattle.warp_base.specs.declared.event.Message.TheVariants as messages
use Rattle.warp_object.specs.declared.object_process.OpenError.TheVariants as opening
use Rattle.dym_c.specs.ProcessMeanings.{ProcessMeaning}
use Rattle.dym_c.specs.ProcessRuns.{HasStarted, HasEndedStart}
use Rattle.dym_c.specs.declared.events.DymData.{DymData}
use Rattle.dym_c.specs.declared.process_content.Phase.{Phase}
use Rattle.dym_c.specs.declared.process_content.Phase.TheVariants.{Running, Starting}
use Rattle.dym_c.specs.declared.process_content.Start.{Start}
use Rattle.dym_c.proofs.Exports.{err_of, not_both, of_start, on_err, open_status, start_ended}
use Rattle.dym_c.proofs.process_calls.end_start.Goals as goal

pub returns-in-Ok : goal.returns-in-Ok
returns-in-Ok c start is =
    let inside = c.inside.inside in
    let s = c.in-Starting.start in
    let v : ProcessMeaning = record { phase = inside.phase; out = inside.out.items; committed = inside.committed.items } in
    let at : inside.phase ≡ Starting s = cc in
    let o = c.state.inside.object in
    let new_o = c.open-opened.new.object in
    let out = c.open-opened.new.out.items in
    let same : c.deref.result.now ≡ s.firsts.items = c.deref.ensures.value in
    let q = c.in-Ok.running in
    let told = c.in-Ok.ensures in
    let started : HasStarted o s new_o q inside.out.items out = record {
      process = λ b starts firsts. told.process b starts (same ∙ firsts);
      number = told.number.0;
      processes = told.number.1;
      posted = told.out ∙ ap (λ (l : List (Draft DymData)). inside.out.items ++ map messages.Event (stamped s.number 0 l)) same;
      live = told.live;
    } in
    let few : COUNT_LIMIT ≤ o.ran → ⊥ = λ many. not_both c.open-opened.result _ _ c.in-Ok.is (c.open-opened.ensures.spent.1 many) in
    let new : Option ProcessMeaning = Some (record v { phase = Running q; out = out }) in
    let there = subst (λ (x : UndoObjectMeaning). HasEndedStart v s o 0 new (Some x)) (sym c.copy_heap.ensures) (start_ended v s o new_o q out started few) in
    let here = subst (λ (x : UndoObjectMeaning). HasEndedStart v s x 0 new (Some c.copy_heap.new.self)) (c.state.view_is ∙ c.look.ensures) there in
    let whole = subst (λ (x : ProcessMeaning). HasEndedStart x s c.args.state.now 0 new (Some c.copy_heap.new.self)) c.inside.view_is here in
    of_start (λ (x : Start). HasEndedStart c.args.inside.now x c.args.state.now 0 new (Some c.copy_heap.new.self)) c.args.inside.now.phase s
    (ap (λ (x : ProcessMeaning). x.phase) (sym c.inside.view_is) ∙ at) whole start is

pub returns-in-Err-NoProcess : goal.returns-in-Err-NoProcess
returns-in-Err-NoProcess c start is =
    let inside = c.inside.inside in
    let s = c.in-Starting.start in
    let v : ProcessMeaning = record { phase = inside.phase; out = inside.out.items; committed = inside.committed.items } in
    let at : inside.phase ≡ Starting s = cc in
    let o = c.state.inside.object in
    let new_o = c.open-opened.new.object in
    let out = c.open-opened.new.out.items in
    let same : c.deref.result.now ≡ s.firsts.items = c.deref.ensures.value in
    let told = c.open-opened.ensures in
    let refused : c.open-opened.result ≡ Err c.in-Err-NoProcess.field-0 = c.in-Err-NoProcess.is in
    let given : c.in-Err-NoProcess.field-0 ≡ opening.NoProcess = rw refused at c.in-Err-NoProcess.field-0-is in
    let why = err_of c.open-opened.result c.in-Err-NoProcess.field-0 opening.NoProcess refused given in
    let unposted = on_err c.open-opened.result _ _ why told.unposted in
    let new : Option ProcessMeaning = Some (record v { phase = Starting s; out = out }) in
    let as_before : new ≡ Some v = ap (λ (f : Phase). Some (record v { phase = f; out = out })) (sym at)
    ∙ ap (λ (l : List (Message DymData)). Some (record v { out = l })) unposted in
    let ended : HasEndedStart v s o 15 new (Some new_o) = record {
      done = λ e. absurd (omega (arith, e));
      spent = (λ e. absurd (omega (arith, e)), λ many. absurd (omega (arith, sym (ap open_status why) ∙ ap open_status (told.spent.1 many))));
      logged = λ e. absurd (omega (arith, e));
      no_process = λ _ each. told.no_process why (subst (Each (λ (d : Draft DymData). d.receiver < s.processes)) (sym same) each);
      unchanged = λ _. (as_before, ap Some (on_err c.open-opened.result _ _ why told.unchanged));
    } in
    let here = subst (λ (x : UndoObjectMeaning). HasEndedStart v s x 15 new (Some new_o)) (c.state.view_is ∙ c.look.ensures) ended in
    let whole = subst (λ (x : ProcessMeaning). HasEndedStart x s c.args.state.now 15 new (Some new_o)) c.inside.view_is here in
    of_start (λ (x : Start). HasEndedStart c.args.inside.now x c.args.state.now 15 new (Some new_o)) c.args.inside.now.phase s
    (ap (λ (x : ProcessMeaning). x.phase) (sym c.inside.view_is) ∙ at) whole start is
