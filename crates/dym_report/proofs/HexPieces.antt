-- The digits of bytes, piece by piece.
use Rattle.std.proofs.Common.{◌≡◌, ℕ, ◌/◌, ◌%◌, length, arith, List, [], ◌∷◌, ◌++◌, take, drop, refl, ap, sym, ◌∙◌}
use Rattle.std.specs.Prelude.{slice_index}
use Rattle.std.proofs.lemmas.List.{take-append-drop}
use Rattle.hex.specs.Hex.{encode_with, encode_lower, lower_digits}

pub encode_with-append : (t xs ys : List ℕ) → encode_with t (xs ++ ys) ≡ encode_with t xs ++ encode_with t ys
unfolding encode_with
encode_with-append t [] ys = refl
encode_with-append t (x ∷ xs) ys = ap (λ e. slice_index t (x / 16) ∷ slice_index t (x % 16) ∷ e) (encode_with-append t xs ys)

-- the digits of the first n bytes, and of the others
pub encode_lower-cut : (xs : List ℕ) (n : ℕ) → encode_lower xs ≡ encode_lower (take n xs) ++ encode_lower (drop n xs)
encode_lower-cut xs n = sym (ap encode_lower (take-append-drop n xs)) ∙ encode_with-append lower_digits (take n xs) (drop n xs)

pub encode_lower-none : (xs : List ℕ) → length xs ≡ 0 → encode_lower xs ≡ []
unfolding encode_with
encode_lower-none [] none = refl
encode_lower-none (x ∷ xs) none = absurd (omega arith)
