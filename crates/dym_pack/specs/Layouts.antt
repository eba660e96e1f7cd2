-- Bytes and some places in them, as one list.
use Rattle.std.specs.Prelude.{◌≡◌, ℕ, ◌+◌, ◌-◌, ◌*◌, ◌/◌, ◌≤◌, List, ◌++◌, map, length, take, drop}
use Rattle.std.specs.Int.{w64, to_le_bytes, from_le_bytes}
use Rattle.std.specs.List.{flat_map, range_with_len}

-- bytes, and some places in them
pub record HasOffsets : Type 0 where
  pub bytes : List ℕ
  pub offsets : List ℕ

-- the bytes, and behind them the places, eight bytes each
abbrev pub laid : List ℕ → List ℕ → List ℕ
laid bytes offsets = bytes ++ flat_map (to_le_bytes w64) offsets

-- the number of eight bytes that begins at a place
abbrev pub word_of : List ℕ → ℕ → ℕ
word_of all at = from_le_bytes w64 (take 8 (drop at all))

-- where the bytes end, which is the last place
abbrev pub end_of : List ℕ → ℕ
end_of all = word_of all (length all - 8)

abbrev pub bytes_of : List ℕ → List ℕ
bytes_of all = take (end_of all) all

-- how many places stand behind them
abbrev pub count_of : List ℕ → ℕ
count_of all = (length all - end_of all) / 8

abbrev pub offsets_of : List ℕ → List ℕ
offsets_of all = map (λ k. word_of all (end_of all + 8 * k)) (range_with_len 0 (count_of all))

-- what is laid: the bytes end before a place at least, and places fill what is behind them
pub record IsLaid (all : List ℕ) : Type 0 where
  pub some : end_of all + 8 ≤ length all
  pub whole : end_of all + 8 * count_of all ≡ length all
