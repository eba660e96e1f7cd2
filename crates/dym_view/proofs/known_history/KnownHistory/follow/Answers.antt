use Rattle.std.proofs.Common.{ap, sym, ◌∙◌, Some}
use Rattle.std.specs.Arc.{arc_value}
use Rattle.dym_view.specs.Histories.{Beginning, last_commit}
use Rattle.dym_view.proofs.Adding.{last_more}
use Rattle.dym_view.proofs.known_history.KnownHistory.follow.Goals as goal

pub of_head-known-requires-clause-last : goal.of_head-known-requires-clause-last
of_head-known-requires-clause-last c =
    let added = c.add-commit.ensures in
    ap (λ x. Some (arc_value x)) added.same ∙ last_more c.args.head.now.commits c.add-commit.new.self.commits (arc_value c.in_ok-commit.commit) added.added

pub sharing-shown-requires : goal.sharing-shown-requires
sharing-shown-requires c =
    ap Some c.in_ok-again.ensures
    ∙ last_more c.args.head.now.commits c.add-commit.new.self.commits (arc_value c.in_ok-commit.commit) c.add-commit.ensures.added
    ∙ ap (λ (b : Beginning). last_commit b.commits) (sym c.of_head-known.ensures)
