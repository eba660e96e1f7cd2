-- Room in one allocation, and what is seen of the right to free it.
use Rattle.std.specs.Prelude.{ℕ, refl}
use Rattle.std.specs.Coded.{Coded, code_by, coded×, coded_ℕ}
use mir.Syntax.{w8, ty_int, ty_array}
use base.Fml.{Fml, froom}

-- an allocation by its number, and how many bytes it has
pub record Allocation : Type 0 where
  pub block : ℕ
  pub size : ℕ

-- it is stored as those two numbers
abbrev pub allocation_code : Coded Allocation
allocation_code = code_by (ℕ × ℕ) (coded× coded_ℕ coded_ℕ) (λ it. (it.block, it.size)) (λ two. record { block = two.0; size = two.1 }) (λ _. refl)

-- `n` bytes from the place `at` of the allocation `block` on, whatever they hold, and nothing else can reach them
abbrev pub room_in : ℕ → ℕ → ℕ → Fml
room_in block at n = froom (ty_array (ty_int w8) n) block at
