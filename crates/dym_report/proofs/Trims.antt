-- What `trimmed` leaves.
use Rattle.std.proofs.Common.{◌≡◌, ◌≢◌, ℕ, ◌-◌, ◌<◌, true, ◌&&◌, cond, List, [], ◌∷◌, ◌++◌, length, get_or, take, drop, refl, ap, sym, ◌∙◌, arith}
use Rattle.std.specs.Prelude.{◌==◌}
use Rattle.std.specs.List.{list_all}
use Rattle.std.proofs.lemmas.List.{take-append-drop}
use Rattle.std.proofs.lemmas.Grind.{common_steps}
use Rattle.dym_report.specs.Hex.{trimmed}

trimmed-zeros : (ys : List ℕ) → list_all (λ b. b == 0) ys ≡ true → trimmed ys ≡ []
trimmed-zeros [] zeros = refl
trimmed-zeros (y ∷ ys) zeros = grind (arith, common_steps, trimmed-zeros ys)

-- zero bytes at the end don't matter
pub trimmed-append_zeros : (xs ys : List ℕ) → list_all (λ b. b == 0) ys ≡ true → trimmed (xs ++ ys) ≡ trimmed xs
trimmed-append_zeros [] ys zeros = trimmed-zeros ys zeros
trimmed-append_zeros (x ∷ xs) ys zeros = ap (λ t. cond (x == 0 && length t == 0) [] (x ∷ t)) (trimmed-append_zeros xs ys zeros)

-- where the last byte isn't zero, nothing is trimmed
pub trimmed-last : (x : ℕ) (xs : List ℕ) → get_or (x ∷ xs) (length xs) 0 ≢ 0 → trimmed (x ∷ xs) ≡ x ∷ xs
trimmed-last x [] last = grind (arith, common_steps)
trimmed-last x (y ∷ ys) last = let e : trimmed (y ∷ ys) ≡ y ∷ ys = trimmed-last y ys last in rw e (grind (arith, common_steps))

pub trimmed_at_last : (xs : List ℕ) → 0 < length xs → get_or xs (length xs - 1) 0 ≢ 0 → trimmed xs ≡ xs
trimmed_at_last [] some last = absurd (omega arith)
trimmed_at_last (x ∷ xs) some last = trimmed-last x xs (grind (arith, common_steps))

-- where only zero bytes stand behind the first n, these say it all
pub trimmed-take : (xs : List ℕ) (n : ℕ) → list_all (λ b. b == 0) (drop n xs) ≡ true → trimmed (take n xs) ≡ trimmed xs
trimmed-take xs n zeros = sym (trimmed-append_zeros (take n xs) (drop n xs) zeros) ∙ ap trimmed (take-append-drop n xs)

-- the last byte alone
pub zero_at_last : (xs : List ℕ) → 0 < length xs → get_or xs (length xs - 1) 0 ≡ 0 → list_all (λ b. b == 0) (drop (length xs - 1) xs) ≡ true
zero_at_last [] some last = refl
zero_at_last (x ∷ []) some last = grind (arith, common_steps)
zero_at_last (x ∷ y ∷ ys) some last = grind (arith, common_steps, zero_at_last (y ∷ ys))
