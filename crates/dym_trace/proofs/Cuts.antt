-- Where a text is cut.
use Rattle.std.proofs.Common.{◌≡◌, ◌≢◌, ℕ, suc, ◌-◌, ◌<◌, false, nat_eq, List, [], ◌∷◌, ◌++◌, length, take, drop, sym, refl, arith}
use Rattle.std.specs.List.{All}
use Rattle.std.proofs.lemmas.List.{nil_from_length, length-take, length-drop}
use Rattle.std.proofs.lemmas.Bool.Decides.{nat_tests}
use Rattle.dym_base.specs.Lines.{lines_of}

-- the first line end ends the first line
pub first_end : (line rest bs : List ℕ) → bs ≡ line ++ 10 ∷ rest → All (λ b. b ≢ 10) line → lines_of bs ≡ line ∷ lines_of rest
first_end [] rest bs is none = rw is refl
first_end (x ∷ line) rest bs is none =
    let other : x ≢ 10 = none 0 x (omega arith) in
    let miss : nat_eq x 10 ≡ false = grind (arith, nat_tests) in
    let more = first_end line rest (line ++ 10 ∷ rest) refl (λ k d lt. none (suc k) d (omega arith)) in
    rw is (rw (miss, more) refl)

-- a text without a line end is one line
pub no_end : (bs : List ℕ) → 0 < length bs → All (λ b. b ≢ 10) bs → lines_of bs ≡ bs ∷ []
no_end [] some none = absurd (omega arith)
no_end (b ∷ []) some none =
    let other : b ≢ 10 = none 0 b (omega arith) in
    let miss : nat_eq b 10 ≡ false = grind (arith, nat_tests) in
    rw miss refl
no_end (b ∷ x ∷ bs) some none =
    let other : b ≢ 10 = none 0 b (omega arith) in
    let miss : nat_eq b 10 ≡ false = grind (arith, nat_tests) in
    let rest = no_end (x ∷ bs) (omega arith) (λ k d lt. none (suc k) d (omega arith)) in
    rw (miss, rest) refl

-- nothing follows the last byte
pub nothing_left : (bs : List ℕ) → take (length bs - length bs) (drop (length bs) bs) ≡ []
nothing_left bs = nil_from_length (take (length bs - length bs) (drop (length bs) bs)) (simp (length-take, length-drop) (omega arith))

-- the first space cuts at one place alone
pub cut_once : (a b more rest : List ℕ) → All (λ x. x ≢ 32) a → All (λ x. x ≢ 32) b → a ++ 32 ∷ more ≡ b ++ 32 ∷ rest → (a ≡ b) × (more ≡ rest)
cut_once [] [] more rest p q e = (refl, cc)
cut_once [] (y ∷ b) more rest p q e = absurd (q 0 y (omega arith) (let same : 32 ≡ y = cc in sym same))
cut_once (x ∷ a) [] more rest p q e = absurd (p 0 x (omega arith) cc)
cut_once (x ∷ a) (y ∷ b) more rest p q e =
    let head : x ≡ y = cc in
    let tail : a ++ 32 ∷ more ≡ b ++ 32 ∷ rest = cc in
    let k = cut_once a b more rest (λ k d lt. p (suc k) d (omega arith)) (λ k d lt. q (suc k) d (omega arith)) tail in
    (rw (head, k.0) refl, k.1)
