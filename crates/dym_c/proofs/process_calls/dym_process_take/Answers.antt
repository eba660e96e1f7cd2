use Rattle.std.proofs.Common.{◌≡◌, Some, refl, ap, sym, ◌∙◌}
use Rattle.dym_c.specs.Events.{message_of_c}
use Rattle.dym_c.specs.ProcessMeanings.{ProcessMeaning}
use Rattle.dym_c.specs.declared.process_content.Phase.TheVariants.{Running}
use Rattle.dym_c.proofs.Exports.{by_running, taking_of}
use Rattle.dym_c.proofs.process_calls.dym_process_take.Goals as goal

pub returns : goal.returns
returns c =
    let inside = c.inside-2.inside in
    let v : ProcessMeaning = record { phase = inside.phase; out = inside.out.items; committed = inside.committed.items } in
    let is : c.args.process.now.kept.value ≡ Some v = c.in-Some-inside.ensures.value ∙ ap Some (sym c.inside-2.view_is) in
    let at : inside.phase ≡ Running c.in-Running.running = cc in
    let given : message_of_c c.args.message.now ≡ Some c.in-Some.message = sym c.message_from_c.ensures ∙ c.in-Some.is in
    taking_of c.args.process.now.kept.value c.take.result c.args.undone.now c.take.new.undone _ (message_of_c c.args.message.now) (Some c.in-Some.message) given
    (by_running c.args.process.now.kept.value v _ _ _ is c.in-Running.running at (c.take.new.running, c.take.new.out.items, refl, c.take.ensures.taken))
