use Rattle.std.proofs.Common.{arith, ap}
use Rattle.std.specs.FinMap.{len}
use Rattle.dym_view.specs.Commits.{CommitMeaning}
use Rattle.dym_view.proofs.Tables.{count_is}
use Rattle.dym_view.proofs.commit.Commit.chunks.Goals as goal

pub returns : goal.returns
returns c = omega (arith, c.len.ensures, count_is c.self.inside.copied c.self.invariant, ap (λ (m : CommitMeaning). len m.copy) c.self.view_is)
