use Rattle.std.proofs.Common.{ℕ, ◌<◌, subst}
use Rattle.std.specs.Prelude.{MatchOption}
use Rattle.dym_base.specs.Numbers.{per}
use Rattle.dym_bits.specs.Bits.{IsSet, IsFirstClear}
use Rattle.dym_area.specs.Area.{AreaMeaning}
use Rattle.dym_area.proofs.Rooms.{all_used, word_searched}
use Rattle.dym_area.proofs.chunks.Area.first_free.Goals as goal

pub returns-then-self-eq0 : goal.returns-then-self-eq0
returns-then-self-eq0 g c =
    subst (λ (a : AreaMeaning). (i : ℕ) → i < per a.exponent → IsSet a.used i) c.self.view_is
    (all_used c.self.inside.used (per c.self.inside.class.exp) c.self.inside.room c.self.invariant.summed c.if-self-eq0.true)

pub returns : goal.returns
returns g c =
    subst (λ (a : AreaMeaning). MatchOption c.next_clear_in_word.result ((k : ℕ) → k < per a.exponent → IsSet a.used k) (IsFirstClear a.used (per a.exponent))) c.self.view_is
    (word_searched c.self.inside.used (per c.self.inside.class.exp) c.self.inside.room c.self.invariant.summed c.self.invariant.fits c.if-self-eq0.false c.next_clear_in_word.result c.next_clear_in_word.ensures)
