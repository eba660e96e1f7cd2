-- The numbers that the generator draws, and texts of them.
use Rattle.std.specs.Prelude.{ℕ, ◌+◌, ◌*◌, ◌/◌, ◌%◌, ◌^◌, List, [], ◌∷◌, ◌++◌, decimal}

-- the state after one more draw
abbrev pub next : ℕ → ℕ
next x = (x * 1103515245 + 12345) % 2 ^ 31

-- the number below m that a draw gives which leaves this state
abbrev pub below : ℕ → ℕ → ℕ
below m x = x / 65536 % m

-- the same of 32, 64, 128 and 256
abbrev pub size_at : ℕ → ℕ
size_at x = 32 * 2 ^ below 4 x

-- a part of a text: a word, a number drawn below m, or a size drawn
pub data Part : Type 0 where
  word : List ℕ → Part
  number : ℕ → Part
  size : Part

-- the text of some parts. Its numbers are drawn in the order in which they stand
abbrev pub text_from : ℕ → List Part → List ℕ
text_from x [] = []
text_from x (word t ∷ ps) = t ++ text_from x ps
text_from x (number m ∷ ps) = decimal (below m (next x)) ++ text_from (next x) ps
text_from x (size ∷ ps) = decimal (size_at (next x)) ++ text_from (next x) ps

-- the state after its draws
abbrev pub state_after : ℕ → List Part → ℕ
state_after x [] = x
state_after x (word t ∷ ps) = state_after x ps
state_after x (number m ∷ ps) = state_after (next x) ps
state_after x (size ∷ ps) = state_after (next x) ps
