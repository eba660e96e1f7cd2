-- The segments of a supply that has its own.
use Rattle.std.specs.Prelude.{ℕ, ◌+◌, vec_len}
use Rattle.dym_quota.specs.declared.own_supply.OwnSupply.{OwnSupply}

-- how many segments a supply owns: as many as its quota, which are out or wait, and those that were laid aside
abbrev pub owned : OwnSupply → ℕ
owned s = s.quota + vec_len s.aside
