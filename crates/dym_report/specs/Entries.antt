-- A part of the entries of a live map.
use Rattle.std.specs.Prelude.{ℕ, nat_lt, if◌then◌else◌, List, [], ◌∷◌}

-- of entries in the order of their keys, those whose key is at least k
abbrev pub entries_from : ℕ → List (ℕ × List ℕ) → List (ℕ × List ℕ)
entries_from k [] = []
entries_from k (e ∷ es) = if nat_lt e.0 k then entries_from k es else e ∷ es
