use Rattle.std.proofs.Common.{ℕ, ◌≤◌, subst, arith}
use Rattle.std.specs.Prelude.{MatchOption}
use Rattle.dym_bits.specs.Bits.{IsClear, IsNextSet}
use Rattle.dym_area.specs.Area.{AreaMeaning}
use Rattle.dym_area.proofs.Classes.{per_small}
use Rattle.dym_area.proofs.chunks.Area.first_used.Goals as goal

pub next_set_within-requires-clause-limit : goal.next_set_within-requires-clause-limit
next_set_within-requires-clause-limit g c = omega (arith, c.per_area.ensures, per_small c.self.inside.class.exp c.self.invariant.valid.least)

pub returns : goal.returns
returns g c =
    subst (λ (a : AreaMeaning). MatchOption c.next_set_within.result ((i : ℕ) → 0 ≤ i → IsClear a.used i) (IsNextSet a.used 0)) c.self.view_is
    c.next_set_within.ensures
