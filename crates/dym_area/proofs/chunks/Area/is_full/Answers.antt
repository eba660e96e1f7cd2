use Rattle.std.proofs.Common.{ℕ, ◌<◌, subst, sym, eqb-true, eq-eqb}
use Rattle.dym_base.specs.Numbers.{per}
use Rattle.dym_bits.specs.Bits.{IsSet}
use Rattle.dym_area.specs.Area.{AreaMeaning}
use Rattle.dym_area.proofs.Rooms.{all_used, none_marked}
use Rattle.dym_area.proofs.chunks.Area.is_full.Goals as goal

pub returns : goal.returns
returns g c =
    let AllUsed : AreaMeaning → Type 0 = λ a. (i : ℕ) → i < per a.exponent → IsSet a.used i in (
      (λ none. subst AllUsed c.self.view_is (all_used c.self.inside.used (per c.self.inside.class.exp) c.self.inside.room c.self.invariant.summed (eqb-true _ _ none))),
      (λ all. eq-eqb _ _ (none_marked c.self.inside.used (per c.self.inside.class.exp) c.self.inside.room c.self.invariant.summed c.self.invariant.fits (subst AllUsed (sym c.self.view_is) all))),
    )
