use Rattle.std.proofs.Common.{sym, ap, subst, ◌∙◌}
use Rattle.std.specs.Prelude.{is_some}
use Rattle.dym_object.specs.Meaning.{ObjectMeaning}
use Rattle.dym_wave.specs.Results.{IsTallyOf, shown_text}
use Rattle.dym_wave.specs.States.{spec_shown}
use Rattle.dym_wave.proofs.Ends.{ran_shown}
use Rattle.dym_wave.proofs.object_end.end_running.Goals as goal

pub returns-clause-state : goal.returns-clause-state
returns-clause-state g c =
    let spec = c.args.spec.now in
    let line = c.args.line in
    let shown = ran_shown spec.commands c.args.turn.object c.args.replies c.requires.state.0 c.requires.ended.0 spec.name spec.version line
    c.requires.state.1 c.requires.ended.1 in
    let quota = c.end-berth.ensures.quota ∙ ap (λ (o : ObjectMeaning). o.heap.quota) c.into_object.ensures in
    let is = shown ∙ ap (spec_shown spec (is_some line)) (sym quota) in (
      λ makes. c.in-Ok.ensures makes ∙ ap shown_text is,
      subst (IsTallyOf c.tally_of-tally.result) is (c.tally_of-tally.ensures spec.name line),
      c.end-berth.ensures.nothing_held,
      c.keep_first.ensures.idle,
    )
