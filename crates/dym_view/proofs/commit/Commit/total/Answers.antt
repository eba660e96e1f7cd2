use Rattle.std.proofs.Common.{ap, ◌∙◌}
use Rattle.dym_view.specs.Commits.{CommitMeaning, total_of}
use Rattle.dym_view.proofs.Tables.{total_is}
use Rattle.dym_view.proofs.commit.Commit.total.Goals as goal

pub returns : goal.returns
returns c = total_is c.self.inside.copied c.self.invariant ∙ ap (λ (m : CommitMeaning). total_of m.copy) c.self.view_is
