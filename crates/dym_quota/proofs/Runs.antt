-- Sums of a run of quotas.
use Rattle.std.proofs.Common.{◌≡◌, ℕ, ◌+◌, ◌-◌, ◌<◌, ◌≤◌, List, length, sum, take, drop, get_or, slice_range, ap, ◌∙◌, subst, ⊎_elim, arith, length-drop, get_or-drop, take-take}
use Rattle.std.proofs.lemmas.Bool.{cases_lt}
use Rattle.std.proofs.lemmas.List.Sums.{sum_by_more, sum_by-take-le}
use Rattle.dym_quota.specs.Waves.{IsLongestRun}

-- a run with one more
pub range_more : (xs : List ℕ) (from end : ℕ) → from ≤ end → end < length xs → sum (slice_range xs from (end + 1)) ≡ sum (slice_range xs from end) + get_or xs end 0
range_more xs from end begun inside =
    let next : end + 1 - from ≡ end - from + 1 = omega arith in
    let place : from + (end - from) ≡ end = omega arith in
    ap (λ (n : ℕ). sum (take n (drop from xs))) next
    ∙ sum_by_more (λ (x : ℕ). x) (drop from xs) (end - from) 0 (omega (arith, length-drop from xs))
    ∙ ap (λ (q : ℕ). sum (slice_range xs from end) + q) (get_or-drop from xs (end - from) 0 ∙ ap (λ (k : ℕ). get_or xs k 0) place)

-- a longer run has no smaller sum
pub range_longer : (xs : List ℕ) (from end other : ℕ) → end ≤ other → sum (slice_range xs from end) ≤ sum (slice_range xs from other)
range_longer xs from end other less =
    let shorter : end - from ≤ other - from = omega arith in
    subst (λ (l : List ℕ). sum l ≤ sum (slice_range xs from other)) (take-take (end - from) (other - from) (drop from xs) shorter) (sum_by-take-le (λ (x : ℕ). x) (slice_range xs from other) (end - from))

-- where the next one doesn't fit, the run is the longest
pub stops : (xs : List ℕ) (segments from end left : ℕ) → from ≤ end → end < length xs → sum (slice_range xs from end) + left ≡ segments → left < get_or xs end 0 → IsLongestRun xs segments from end
stops xs segments from end left begun inside sums over = record {
  inside = omega arith;
  fits = omega arith;
  longest = λ other known fits.
      ⊎_elim
      (λ (beyond : end < other).
      let more = range_more xs from end begun inside in
      let longer = range_longer xs from (end + 1) other (omega arith) in
      absurd (omega arith))
      (λ (within : other ≤ end). within)
      (cases_lt end other);
}
