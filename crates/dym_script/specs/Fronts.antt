-- Digits at the front of a text, with zeros before them.
use Rattle.std.specs.Prelude.{◌≡◌, ℕ, ◌-◌, ◌<◌, ◌≤◌, List, ◌++◌, length, take, replicate}
use Rattle.std.specs.Int.{w64, to_le_bytes}

-- a word's bytes are zeros, as digits, and after them so many bytes at the front of the text, one to seven
pub record IsFront (text : List ℕ) (word : ℕ) (count : ℕ) : Type 0 where
  pub some : 0 < count
  pub few : count < 8
  pub within : 8 ≤ length text
  pub bytes : to_le_bytes w64 word ≡ replicate (8 - count) 48 ++ take count text
