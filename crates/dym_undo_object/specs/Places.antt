-- The places of chunks in a region, live or not.
use Rattle.std.specs.Prelude.{ℕ, ◌/◌, ◌≤◌, ◌<◌}
use Rattle.dym_base.specs.Numbers.{per}
use Rattle.dym_base.specs.declared.limits.TheConstants.{LEAST_EXPONENT, GREATEST_EXPONENT}
use Rattle.dym_heap.specs.Addresses.{chunk_offset}

-- a chunk of class e and of index i can be live within the quota
abbrev pub IsPlace : ℕ → ℕ → ℕ → Type 0
IsPlace quota e i = (LEAST_EXPONENT ≤ e) × (e ≤ GREATEST_EXPONENT) × (i / per e < quota)

-- where it begins
abbrev pub place_start : ℕ → ℕ → ℕ → ℕ
place_start quota e i = chunk_offset quota (record { exp = e; index = i })
