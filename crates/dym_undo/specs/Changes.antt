-- What was changed in a heap, with what stood there before.
use Rattle.std.specs.Prelude.{ℕ, ◌+◌, List, [], ◌∷◌, length, Option, None, Some, Bool, false, ◌==◌, ◌||◌}
use Rattle.std.specs.FinMap as map
use Rattle.dym_base.specs.Heaps.{Live}

-- a chunk that was changed: its number, and its bytes before, if it was live
pub record Change : Type 0 where
  pub key : ℕ
  pub before : Option (List ℕ)

-- the chunk of number k is this: dead, or live with these bytes
abbrev pub put_at : Live → ℕ → Option (List ℕ) → Live
put_at live k None = map.remove live k
put_at live k (Some bytes) = map.insert live k bytes

-- the map before these changes, which stand oldest first: of two changes of a chunk the first counts
abbrev pub patched : List Change → Live → Live
patched [] live = live
patched (c ∷ cs) live = put_at (patched cs live) c.key c.before

-- the chunk of number k is among the changes
abbrev pub is_noted : ℕ → List Change → Bool
is_noted k [] = false
is_noted k (c ∷ cs) = (k == c.key) || is_noted k cs

-- the bytes that a state of a chunk has
abbrev pub bytes_of : Option (List ℕ) → ℕ
bytes_of None = 0
bytes_of (Some bytes) = length bytes

-- the bytes that the changes keep
abbrev pub noted_bytes : List Change → ℕ
noted_bytes [] = 0
noted_bytes (c ∷ cs) = bytes_of c.before + noted_bytes cs
