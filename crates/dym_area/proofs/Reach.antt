-- How far the used chunks of an area reach, as chunks are taken and given up.
use Rattle.std.proofs.Common.{◌≡◌, ℕ, ◌+◌, ◌-◌, ◌*◌, ◌<◌, ◌≤◌, Bool, true, false, List, length, inl, inr, sym, ◌∙◌, ap, arith}
use Rattle.std.specs.Prelude.{slice_set}
use Rattle.std.proofs.lemmas.Bool.{cases_eq}
use Rattle.std.proofs.lemmas.List.{get_or-set_other}
use Rattle.std.proofs.lemmas.Grind.{get_or-set_at}
use Rattle.dym_base.specs.Numbers.{size}
use Rattle.dym_bits.specs.Bits.{bit_in, IsSet}
use Rattle.dym_area.specs.Area.{AreaMeaning, AreFilled}
use Rattle.dym_area.proofs.Rooms.{true_is_not_false}

-- as far as before, or farther
pub filled_on : (used : List Bool) (e far farther : ℕ) → far ≤ farther → AreFilled used e far → AreFilled used e farther
filled_on used e far farther more filled i set = omega (arith, more, filled i set)

-- one chunk more
pub filled_taken : (used : List Bool) (e far farther i : ℕ) → far ≤ farther → i * size e + size e ≤ farther → AreFilled used e far → AreFilled (slice_set used i true) e farther
filled_taken used e far farther i more here filled k set =
    elim (cases_eq k i) [
      | inl same ↦ omega (arith, ap (λ j. j * size e) same, here)
      | inr other ↦ filled_on used e far farther more filled k (sym (get_or-set_other used i k true false other) ∙ set)
    ]

-- one chunk less
pub filled_released : (used : List Bool) (e far i : ℕ) → i < length used → AreFilled used e far → AreFilled (slice_set used i false) e far
filled_released used e far i within filled k set =
    elim (cases_eq k i) [
      | inl same ↦ absurd (true_is_not_false (bit_in (slice_set used i false) k) set (get_or-set_at used i k false false same within))
      | inr other ↦ filled k (sym (get_or-set_other used i k false false other) ∙ set)
    ]

-- where chunk i ends
pub chunk_end : (i n : ℕ) → (i + 1) * n ≡ i * n + n
chunk_end i n = grind arith

sum_of : (m n k : ℕ) → m * k + n * k ≡ (m + n) * k
sum_of m n k = grind arith

-- used chunks side by side
pub run_within : (used : List Bool) (e far from count : ℕ) → (count ≡ 0 → ⊥) → ((i : ℕ) → from ≤ i → i < from + count → IsSet used i) → AreFilled used e far → from * size e + count * size e ≤ far
run_within used e far from count some all filled =
    let last = from + count - 1 in
    let next : last + 1 ≡ from + count = omega (arith, some) in
    let end : from * size e + count * size e ≡ last * size e + size e = sum_of from count (size e) ∙ ap (λ n. n * size e) (sym next) ∙ chunk_end last (size e) in
    omega (arith, end, filled last (all last (omega (arith, some)) (omega (arith, some))))

-- used chunks side by side, by the size that is at hand, where the area is seen as another record of the same fields
pub run_seen : {area seen : AreaMeaning} (is : area ≡ seen) (far from count : ℕ) {n : ℕ} → n ≡ size area.exponent → (count ≡ 0 → ⊥) → ((i : ℕ) → from ≤ i → i < from + count → IsSet seen.used i) → AreFilled area.used area.exponent far → from * n + count * n ≤ far
run_seen {area} is far from count same some all filled =
    omega (arith, ap (λ n. from * n + count * n) same, run_within area.used area.exponent far from count some (λ i low high. ap (λ (a : AreaMeaning). bit_in a.used i) is ∙ all i low high) filled)
