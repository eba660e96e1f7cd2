-- The numbers and the sizes that are drawn.
use Rattle.std.proofs.Common.{ℕ, zero, suc, ◌*◌, ◌^◌, ◌<◌, arith}
use Rattle.dym_gen.specs.Draws.{below}

pub below_lt : (m x : ℕ) → 0 < m → below m x < m
below_lt m x some = omega arith

pub size_lt : (n : ℕ) → n < 4 → 32 * 2 ^ n < 257
size_lt zero h = omega arith
size_lt (suc zero) h = omega arith
size_lt (suc (suc zero)) h = omega arith
size_lt (suc (suc (suc zero))) h = omega arith
size_lt (suc (suc (suc (suc n)))) h = absurd (omega arith)
