-- Handles and size classes as numbers.
use Rattle.std.specs.Prelude.{ℕ, ◌+◌, ◌-◌, ◌*◌, ◌/◌, ◌%◌, ◌^◌, ◌≤◌, ◌<◌, ◌⊎◌, List, [], ◌∷◌, nat_le}
use Rattle.std.specs.Prelude.{Option, find}
use Rattle.dym_base.specs.declared.limits.TheConstants.{LEAST_EXPONENT, GREATEST_EXPONENT}

-- the bytes of a chunk of class e
abbrev pub size : ℕ → ℕ
size e = 2 ^ e

-- the chunks of class e in one area, which is a segment of 2 ^ 16 bytes
abbrev pub per : ℕ → ℕ
per e = 2 ^ (16 - e)

-- the number of the handle of class e and index i. Nil is 0
abbrev pub number : ℕ → ℕ → ℕ
number e i = e * 2 ^ 32 + i

-- the class and the index of a handle's number
abbrev pub exponent_of : ℕ → ℕ
exponent_of n = n / 2 ^ 32

abbrev pub index_of : ℕ → ℕ
index_of n = n % 2 ^ 32

-- the class exponents
abbrev pub classes : List ℕ
classes = 5 ∷ 6 ∷ 7 ∷ 8 ∷ 9 ∷ 10 ∷ 11 ∷ 12 ∷ 13 ∷ 14 ∷ 15 ∷ 16 ∷ []

-- e is one of these
abbrev pub IsClass : ℕ → Type 0
IsClass e = (LEAST_EXPONENT ≤ e) × (e ≤ GREATEST_EXPONENT)

-- e is none of these
abbrev pub IsNoClass : ℕ → Type 0
IsNoClass e = (e < LEAST_EXPONENT) ⊎ (GREATEST_EXPONENT < e)

-- the place of class e among these
abbrev pub rank : ℕ → ℕ
rank e = e - LEAST_EXPONENT

-- the class of n bytes: the least whose size is at least n, and none where n is above 65,536
unfoldable pub cls : ℕ → Option ℕ
cls n = find (λ e. nat_le n (size e)) classes
