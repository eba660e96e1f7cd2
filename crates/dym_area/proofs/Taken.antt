-- The bits of an area once a free chunk was taken.
use Rattle.std.proofs.Common.{ℕ, ◌<◌, Bool, true, false, List, length, ⊎_elim, sym, ◌∙◌, arith}
use Rattle.std.specs.Prelude.{slice_set}
use Rattle.std.proofs.lemmas.Bool.{cases_eq}
use Rattle.std.proofs.lemmas.List.{get_or-set_other}
use Rattle.std.proofs.lemmas.Grind.{get_or-set_at}
use Rattle.dym_bits.specs.Bits.{IsSet}

-- every bit that is set then stands below the number of chunks
pub used_below_taken : (used : List Bool) (count i : ℕ) → i < count → ((k : ℕ) → IsSet used k → k < count) → (k : ℕ) → IsSet (slice_set used i true) k → k < count
used_below_taken used count i within below k set =
    ⊎_elim
    (λ here. omega (arith, here, within))
    (λ apart. below k (sym (get_or-set_other used i k true false apart) ∙ set))
    (cases_eq k i)

-- and is used where it is dirty
pub dirty_used_taken : (used dirty : List Bool) (i : ℕ) → i < length used → ((k : ℕ) → IsSet dirty k → IsSet used k) → (k : ℕ) → IsSet (slice_set dirty i true) k → IsSet (slice_set used i true) k
dirty_used_taken used dirty i within is_used k set =
    ⊎_elim
    (λ here. get_or-set_at used i k true false here within)
    (λ apart. get_or-set_other used i k true false apart ∙ is_used k (sym (get_or-set_other dirty i k true false apart) ∙ set))
    (cases_eq k i)
