-- The digits of numbers, and how many they are.
use Rattle.std.proofs.Common.{ℕ, ◌≡◌, ◌+◌, ◌/◌, ◌%◌, ◌<◌, ◌≤◌, ◌^◌, [], ◌∷◌, ◌++◌, length, ap, ◌∙◌, append_assoc, arith}
use Rattle.std.specs.Prelude.{decimal}
use Rattle.std.proofs.lemmas.Fmt.{decimal_digit, decimal_step, length-decimal-le}

pub one_digit : (n : ℕ) → n < 10 → decimal n ≡ (48 + n % 10) ∷ []
one_digit n small =
    let same : n % 10 ≡ n = omega arith in
    rw same (decimal_digit n small)

pub two_digits : (n : ℕ) → 10 ≤ n → n < 100 → decimal n ≡ (48 + n / 10 % 10) ∷ (48 + n % 10) ∷ []
two_digits n long small =
    decimal_step n long (omega arith) ∙ ap (λ l. l ++ ((48 + n % 10) ∷ [])) (one_digit (n / 10) (omega arith))

pub three_digits : (n : ℕ) → 100 ≤ n → n < 1000 → decimal n ≡ (48 + n / 100) ∷ (48 + n / 10 % 10) ∷ (48 + n % 10) ∷ []
three_digits n long small =
    let first : n / 10 / 10 % 10 ≡ n / 100 = omega arith in
    rw first at (decimal_step n (omega arith) (omega arith) ∙ ap (λ l. l ++ ((48 + n % 10) ∷ [])) (two_digits (n / 10) (omega arith) (omega arith)))

-- the digits of a longer number end with the three of its last part
pub last_digits : (n : ℕ) → 1000 ≤ n → n < 1000000 → decimal n ≡ decimal (n / 1000) ++ ((48 + n / 100 % 10) ∷ (48 + n / 10 % 10) ∷ (48 + n % 10) ∷ [])
last_digits n long small =
    let hundreds : n / 10 / 10 ≡ n / 100 = omega arith in
    let thousands : n / 100 / 10 ≡ n / 1000 = omega arith in
    let third = rw thousands at (decimal_step (n / 100) (omega arith) (omega arith)) in
    let second = rw hundreds at (decimal_step (n / 10) (omega arith) (omega arith)) in
    let x = 48 + n / 100 % 10 in
    let y = 48 + n / 10 % 10 in
    let z = 48 + n % 10 in
    decimal_step n (omega arith) (omega arith) ∙ ap (λ l. l ++ (z ∷ [])) (second ∙ ap (λ l. l ++ (y ∷ [])) third)
    ∙ append_assoc (decimal (n / 1000) ++ (x ∷ [])) (y ∷ []) (z ∷ []) ∙ append_assoc (decimal (n / 1000)) (x ∷ []) (y ∷ z ∷ [])

-- a number below 2 ^ 64 has at most 20
pub decimal_20 : (n : ℕ) → n < 2 ^ 64 → length (decimal n) ≤ 20
decimal_20 n small = length-decimal-le 20 n (omega arith) (omega arith) small
