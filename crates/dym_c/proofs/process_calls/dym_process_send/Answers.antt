use Rattle.std.proofs.Common.{◌≡◌, Some, refl, ap, sym, ◌∙◌, subst}
use Rattle.warp_base.specs.declared.event.Draft.{Draft}
use Rattle.dym_c.specs.ProcessRuns.{HasKeptFirst, HasSent}
use Rattle.dym_c.specs.declared.events.DymData.{DymData}
use Rattle.dym_c.specs.ProcessMeanings.{ProcessMeaning}
use Rattle.dym_c.specs.declared.process_content.Phase.TheVariants.{Running, Starting}
use Rattle.dym_c.proofs.Exports.{by_running, by_starting}
use Rattle.dym_c.proofs.process_calls.dym_process_send.Goals as goal

pub returns-in-Starting : goal.returns-in-Starting
returns-in-Starting c =
    let inside = c.inside-2.inside in
    let v : ProcessMeaning = record { phase = inside.phase; out = inside.out.items; committed = inside.committed.items } in
    let is : c.args.process.now.kept.value ≡ Some v = c.in-Some.ensures.value ∙ ap Some (sym c.inside-2.view_is) in
    let start = c.in-Starting.start in
    let at : inside.phase ≡ Starting start = cc in
    by_starting c.args.process.now.kept.value v _ _ _ is start at (
      c.send_first.new.start,
      refl,
      subst (λ (d : Draft DymData). HasKeptFirst start c.send_first.new.start d c.send_first.result) c.draft_from_c-draft.ensures c.send_first.ensures,
    )

pub returns-in-Running : goal.returns-in-Running
returns-in-Running c =
    let inside = c.inside-2.inside in
    let v : ProcessMeaning = record { phase = inside.phase; out = inside.out.items; committed = inside.committed.items } in
    let is : c.args.process.now.kept.value ≡ Some v = c.in-Some.ensures.value ∙ ap Some (sym c.inside-2.view_is) in
    let running = c.in-Running.running in
    let at : inside.phase ≡ Running running = cc in
    by_running c.args.process.now.kept.value v _ _ _ is running at (
      c.send.new.running,
      refl,
      subst (λ (d : Draft DymData). HasSent running c.send.new.running d c.send.result) c.draft_from_c-draft.ensures c.send.ensures.sent,
    )
