use Rattle.std.proofs.Common.{◌≡◌, Some, refl, ap, sym, ◌∙◌}
use Rattle.dym_c.specs.ProcessMeanings.{ProcessMeaning}
use Rattle.dym_c.specs.declared.process_content.Phase.TheVariants.{Running}
use Rattle.dym_c.proofs.Exports.{both_running}
use Rattle.dym_c.proofs.process_calls.dym_process_end.Goals as goal

pub returns-in-Running : goal.returns-in-Running
returns-in-Running c =
    let inside = c.inside-3.inside in
    let v : ProcessMeaning = record { phase = inside.phase; out = inside.out.items; committed = inside.committed.items } in
    let object : c.args.process.now.object.value ≡ Some c.in-Some-inside.state.now = c.in-Some-inside.ensures.value in
    let is : c.args.process.now.kept.value ≡ Some v = c.in-Some.ensures.value ∙ ap Some (sym c.inside-3.view_is) in
    let at : inside.phase ≡ Running c.in-Running.running = cc in
    both_running c.args.process.now.kept.value c.args.process.now.object.value _ _ _ v c.in-Some-inside.state.now is
    object c.in-Running.running at (c.end.new.running, c.end.new.out.items, refl, sym object, c.end.ensures.ended)
