-- Steps along lists and sets.
use Rattle.std.proofs.Common.{◌≡◌, ℕ, suc, ◌+◌, ◌<◌, Bool, true, false, not, ◌&&◌, ◌==◌, List, ◌∷◌, length, drop, get_or, sym, ap, ◌∙◌, arith, true≢false}
use Rattle.std.proofs.Math.Seq.{drop-cons}
use Rattle.std.specs.FinSet as set
use Rattle.std.specs.FinSet.{contains, contains-remove}
use Rattle.std.specs.Cmp.{nat_cmp_total, unsigned_tied}
use Rattle.dym_base.specs.Heaps.{Touched}

-- what is left of a list begins with its next item
pub next : {A : Type 0} (xs : List A) (i : ℕ) (d : A) → i < length xs → drop i xs ≡ get_or xs i d ∷ drop (i + 1) xs
next xs i d lt = drop-cons xs i d lt ∙ ap (λ n. get_or xs i d ∷ drop n xs) (let e : suc i ≡ i + 1 = omega arith in e)

pub contains_remove : (touched : Touched) (k q : ℕ) → contains (set.remove touched k) q ≡ (not (q == k) && contains touched q)
contains_remove touched k q = contains-remove nat_cmp_total touched k q ∙ ap (λ b. not b && contains touched q) (unsigned_tied q k)

pub and_right : (a b : Bool) → (a && b) ≡ true → b ≡ true
and_right true b e = e
and_right false b e = absurd (true≢false (sym e))
