use Rattle.std.proofs.Common.{◌≤◌, ap, subst, arith, length, List}
use mathlib.Core.List.{IsPrefix}
use Rattle.dym_view.specs.Histories.{Beginning}
use Rattle.dym_view.specs.Rules.{Entry, commits_of}
use Rattle.dym_view.proofs.Adding.{commits_begin}
use Rattle.dym_view.proofs.Beginnings.{prefix_shorter}
use Rattle.dym_view.proofs.known_history.KnownHistory.begins.Goals as goal

pub returns : goal.returns
returns c =
    let both = c.learn.new.self.log in
    let this : IsPrefix c.self.inside.reached.log both = subst (λ (l : List Entry). IsPrefix l both) (ap (λ s. s.log) c.again-both.ensures) c.learn.ensures.2 in
    let less : length (commits_of c.self.inside.reached.log) ≤ length (commits_of c.other.inside.reached.log) =
    omega (arith, c.requires.shorter, ap (λ (b : Beginning). length b.commits) c.self.view_is, ap (λ (b : Beginning). length b.commits) c.other.view_is) in
    rw (← c.self.view_is, ← c.other.view_is)
    (prefix_shorter (commits_of c.self.inside.reached.log) (commits_of c.other.inside.reached.log) (commits_of both) (commits_begin c.self.inside.reached.log both this)
    (commits_begin c.other.inside.reached.log both c.learn.ensures.3) less)
