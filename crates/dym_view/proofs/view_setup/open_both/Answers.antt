use Rattle.std.proofs.Common.{ap, sym, subst, drop, ◌∙◌}
use Rattle.left_right.specs.Sides.{view}
use Rattle.dym_view.specs.Histories.{Beginning}
use Rattle.dym_view.specs.Rules.{HasSeen}
use Rattle.dym_view.proofs.Names.{shown_after, both_went}
use Rattle.dym_view.proofs.view_setup.open_both.Goals as goal

pub returns-in-Ok : goal.returns-in-Ok
returns-in-Ok g c =
    let room = c.make_room-room in
    let first = c.publish_at_last in
    let second = c.publish_at_last-2 in
    let reader = c.open_view_reader-view_reader in
    let start = room.new.view_writer in
    let once = first.new.view_writer in
    let twice = second.new.view_writer in
    let shown = shown_after c.args.known.now start.desk.shown.value once.desk.shown.value twice.desk.shown.value
    (drop start.behind start.log.items) (drop once.behind once.log.items)
    (ap (λ d. d.shown.value) room.ensures.desk ∙ c.in_ok-view_writer.ensures.shown) room.ensures.waiting first.ensures.shown first.ensures.waiting second.ensures.shown in
    let seen = both_went (λ r. HasSeen twice.desk.shown.value.history (view r.place)) room.result reader.result c.in-Ok.view_reader
    (sym c.and.ensures ∙ c.in-Ok.is) reader.ensures.view_reader in
    record {
      shown = ap (λ p. p.value) reader.ensures.shown ∙ shown;
      waiting = reader.ensures.waiting ∙ second.ensures.waiting;
      view_reader = subst (λ (b : Beginning). HasSeen b.history (view c.in-Ok.view_reader.place)) shown seen;
    }
