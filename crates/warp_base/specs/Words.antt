-- Lists of numbers in the order of a dictionary, and whether two are one.
use Rattle.std.specs.Prelude.{ℕ, Bool, true, false, cond, nat_lt, ◌==◌, List, [], ◌∷◌}

-- the first list is at or before the second one
unfoldable pub lexically : List ℕ → List ℕ → Bool
lexically [] ys = true
lexically (x ∷ xs) [] = false
lexically (x ∷ xs) (y ∷ ys) = cond (nat_lt x y) true (cond (x == y) (lexically xs ys) false)

-- both lists have the same numbers
unfoldable pub same_numbers : List ℕ → List ℕ → Bool
same_numbers [] [] = true
same_numbers [] (y ∷ ys) = false
same_numbers (x ∷ xs) [] = false
same_numbers (x ∷ xs) (y ∷ ys) = cond (x == y) (same_numbers xs ys) false
