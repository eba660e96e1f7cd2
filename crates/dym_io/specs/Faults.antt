-- The count of faults that a source and a sink keep.
use Rattle.std.specs.Prelude.{◌≡◌, ◌⊎◌, ℕ, ◌+◌, ◌-◌, ◌^◌, ◌<◌, min}

-- The count rose in a call: it is greater at the call's end than at its start, or stands at the greatest u64 there.
abbrev pub Rose : ℕ → ℕ → Type 0
Rose old new = (old < new) ⊎ (new ≡ 2 ^ 64 - 1)

-- One more, staying at the greatest u64.
abbrev pub counted : ℕ → ℕ
counted n = min (n + 1) (2 ^ 64 - 1)

-- A call failed once, and its fault was counted: the count is one more, or stands at the greatest u64.
abbrev pub RoseOnce : ℕ → ℕ → Type 0
RoseOnce old new = (new ≡ old + 1) ⊎ ((old ≡ 2 ^ 64 - 1) × (new ≡ old))
