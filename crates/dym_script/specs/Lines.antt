-- What may stand in a line, and how a line is cut into words.
use Rattle.std.specs.Prelude.{ℕ, Bool, true, false, ◌&&◌, ◌==◌, nat_le, List, [], ◌∷◌}
use Rattle.std.specs.List.{slice_split, filter}

-- what may stand in a line
abbrev pub is_printable : ℕ → Bool
is_printable b = nat_le 0x20 b && nat_le b 0x7e

-- the byte that stands between words
abbrev pub is_space : ℕ → Bool
is_space b = b == 32

-- a piece is a word where it isn't empty
abbrev pub is_word : List ℕ → Bool
is_word [] = false
is_word (b ∷ bytes) = true

-- the words of a line: what stands between spaces and isn't empty
unfoldable pub words_of : List ℕ → List (List ℕ)
words_of line = filter is_word (slice_split is_space line)
