-- The first items of a list, one more of them, and all.
use Rattle.std.proofs.Common.{◌≡◌, ℕ, zero, suc, ◌+◌, ◌<◌, ◌≤◌, List, [], ◌∷◌, ◌++◌, length, take, refl, ap, ◌∙◌, arith}
use Rattle.dym_base.specs.Objects.{LogEntry}
use Rattle.dym_undo.specs.UndoLogs.{log_at}

pub take_more : (n : ℕ) (xs : List LogEntry) → n < length xs → take (n + 1) xs ≡ take n xs ++ log_at xs n ∷ []
take_more n xs lt = ap (λ m. take m xs) (let e : n + 1 ≡ suc n = omega arith in e) ∙ by n xs lt
  where
    by : (n : ℕ) (xs : List LogEntry) → n < length xs → take (suc n) xs ≡ take n xs ++ log_at xs n ∷ []
    by n [] lt = absurd (omega arith)
    by zero (x ∷ xs) lt = refl
    by (suc n) (x ∷ xs) lt = ap (λ l. x ∷ l) (by n xs (omega arith))

pub take_whole : (n : ℕ) (xs : List LogEntry) → length xs ≤ n → take n xs ≡ xs
take_whole n [] le = Rattle.std.proofs.Math.Seq.take-nil n
take_whole zero (x ∷ xs) le = absurd (omega arith)
take_whole (suc n) (x ∷ xs) le = ap (λ l. x ∷ l) (take_whole n xs (omega arith))
