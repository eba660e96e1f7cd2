-- Random numbers by a generator that is one number (SplitMix64).
use Rattle.std.specs.Prelude.{ℕ, zero, suc, ◌+◌, ◌*◌, ◌/◌, ◌%◌, ◌^◌, bit_xor}
use Rattle.std.specs.Int.{w64, leading_zeros}

-- a number of 64 bits, mixed well
unfoldable pub mixed : ℕ → ℕ
mixed x =
    let y = bit_xor x (x / 2 ^ 30) * 0xbf58476d1ce4e5b9 % 2 ^ 64 in
    let z = bit_xor y (y / 2 ^ 27) * 0x94d049bb133111eb % 2 ^ 64 in
    bit_xor z (z / 2 ^ 31)

-- the generator's next number, of which the random number is made by mixing
unfoldable pub next : ℕ → ℕ
next random = (random + 0x9e3779b97f4a7c15) % 2 ^ 64

-- where the generator of a process begins
unfoldable pub seeded : ℕ → ℕ → ℕ
seeded seed process = mixed ((seed * 0x2545f4914f6cdd1d + process + 1) % 2 ^ 64)

-- a time without memory: it lasts for each further half-life with probability 1/2
unfoldable pub memoryless : ℕ → ℕ → ℕ
memoryless half_life random = half_life * leading_zeros w64 random + mixed random % (half_life + 1)

-- a random number below a bound, of the generator's next number
unfoldable pub drawn : ℕ → ℕ → ℕ
drawn random bound = mixed (next random) % bound

-- the generator's number after so many draws
abbrev pub after_draws : ℕ → ℕ → ℕ
after_draws random zero = random
after_draws random (suc k) = next (after_draws random k)
