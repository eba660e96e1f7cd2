-- What a segment holds, and what its calls do with that.
use Rattle.std.specs.Prelude.{◌≡◌, ℕ, ◌+◌, ◌-◌, ◌≤◌, List, ◌++◌, length, replicate, slice_range}
use Rattle.std.specs.List.{splice}
use Rattle.std.proofs.Common.{ap, ◌∙◌, subst, length-append}
use Rattle.std.proofs.lemmas.List.{length-replicate}
use native.Mathlib.Nat.{add-sub_of_le}

-- n bytes of which only the first were used: those, and zeros behind them
unfoldable pub zeros_behind : ℕ → List ℕ → List ℕ
zeros_behind n used = used ++ replicate (n - length used) 0

-- these are n bytes, where no more were used
pub length-zeros_behind : (n m l : ℕ) (used : List ℕ) → (l ≡ length used) × (l ≤ n) → n ≡ m → length (zeros_behind n used) ≡ m
unfolding zeros_behind
length-zeros_behind n m l used fits same =
    length-append used (replicate (n - length used) 0)
    ∙ ap (λ k. length used + k) (length-replicate (n - length used) 0)
    ∙ add-sub_of_le (subst (λ k. k ≤ n) fits.0 fits.1)
    ∙ same

-- the `len` bytes from place `at` on
abbrev pub part_of : List ℕ → ℕ → ℕ → List ℕ
part_of xs at len = slice_range xs at (at + len)

-- the bytes after `ys` was written over those from place `at` on
abbrev pub with_part : List ℕ → ℕ → List ℕ → List ℕ
with_part xs at ys = splice xs at (at + length ys) ys
