use Rattle.std.proofs.Common.{refl, ap, ◌∙◌, drop}
use Rattle.left_right.specs.Sides.{view}
use Rattle.dym_view.specs.Histories.{Beginning}
use Rattle.dym_view.proofs.Names.{takes, published_of, seen_after}
use Rattle.dym_view.proofs.publication.publish_waiting.Goals as goal

pub publish_as-requires : goal.publish_as-requires
publish_as-requires g c next is =
    let now = c.args.view_writer.desk.shown.value in
    takes _ _ now next (ap (λ (b : Beginning). b.history) is ∙ published_of now.history now (drop c.args.view_writer.behind c.args.view_writer.log.items) refl c.requires)

pub returns-clause-seen : goal.returns-clause-seen
returns-clause-seen g c =
    let old = c.args.view_writer in
    let new = c.publish_as.result.0 in
    seen_after old.desk.shown.value new.desk.shown.value (drop old.behind old.log.items) (drop new.behind new.log.items)
    c.publish_as.result.1 (view old.desk.place) (view new.desk.place) c.requires c.publish_as.ensures.values c.publish_as.ensures.rule
