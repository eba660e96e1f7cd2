-- The class size that a row of the tables tells.
use Rattle.std.proofs.Common.{◌≡◌, ℕ, zero, suc, ◌-◌, ◌*◌, ◌^◌, ◌%◌, ◌<◌, ◌≤◌, ◌==◌, true, not, List, [], ◌∷◌, ◌++◌, length, get_or, take, drop, replicate, codes, Some, refl, sym, ap, ◌∙◌, arith, take-append-drop}
use Rattle.std.specs.Int.{w64, to_le_bytes, from_le_bytes}
use Rattle.std.specs.List.{list_all}
use Rattle.dym_script.specs.Words.{exponent_of}
use Rattle.dym_script.specs.Quick.{is_bare, Sizes}
use Rattle.dym_script.proofs.WordCuts.{take_rest}
use Rattle.dym_script.proofs.Spelled.{sizes_front}
use Rattle.dym_script.proofs.Fronts.{moved_bytes}

-- the columns of the tables
abbrev pub lengths : List ℕ
lengths = 5 ∷ 3 ∷ 5 ∷ 4 ∷ 6 ∷ 3 ∷ 3 ∷ 3 ∷ 4 ∷ 6 ∷ 5 ∷ 3 ∷ 6 ∷ 4 ∷ 3 ∷ 5 ∷ []

abbrev pub exponents : List ℕ
exponents = 13 ∷ 5 ∷ 10 ∷ 9 ∷ 16 ∷ 5 ∷ 5 ∷ 6 ∷ 8 ∷ 15 ∷ 11 ∷ 5 ∷ 14 ∷ 7 ∷ 5 ∷ 12 ∷ []

abbrev pub texts : List ℕ
texts =
    4193477086591057920 ∷ 4193470278128369664 ∷ 4194032335550676992 ∷ 4193468306738380800 ∷ 4194596406561210368 ∷ 4193470278128369664
    ∷ 4193470278128369664 ∷ 4194036526616674304 ∷ 4194598591806832640 ∷ 4195162663588921344 ∷ 4195160434497552384 ∷ 4193470278128369664
    ∷ 4194038945592442880 ∷ 4195158238930403328 ∷ 4193470278128369664 ∷ 4194602982135824384 ∷ []

-- lists are the same where they are the same behind as many zeros
same_behind : (k : ℕ) (xs ys : List ℕ) → replicate k 0 ++ xs ≡ replicate k 0 ++ ys → xs ≡ ys
same_behind zero xs ys same = same
same_behind (suc k) xs ys same = same_behind k xs ys (ap (drop 1) same)

-- where the first eight bytes of a text are a word, and as many of them as a size and its colon have are that size's text
record Reads (text : List ℕ) (word len number : ℕ) : Type 0 where
  each : (i : ℕ) → get_or text i 0 < 256
  long : 8 ≤ length text
  is : word ≡ from_le_bytes w64 text
  same : word * 2 ^ (64 - 8 * len) % 18446744073709551616 ≡ number

row_sizes : (text size rest : List ℕ) (word exp len number : ℕ) → Reads text word len number → 0 < len → len < 8
    → to_le_bytes w64 number ≡ replicate (8 - len) 0 ++ (size ++ 58 ∷ []) → list_all is_bare size ≡ true → list_all (λ b. not (b == 58)) size ≡ true
    → exponent_of size ≡ Some exp → rest ≡ take (length text - len) (drop len text)
    → Sizes text exp rest
row_sizes text size rest word exp len number reads some few bytes bare whole value after =
    let moved = moved_bytes text word len reads.each reads.long reads.is some few in
    let front : size ++ 58 ∷ [] ≡ take len text = same_behind (8 - len) (size ++ 58 ∷ []) (take len text) (sym bytes ∙ ap (to_le_bytes w64) (sym reads.same) ∙ moved) in
    let back : rest ≡ drop len text = after ∙ take_rest len text in
    sizes_front text size rest exp (sym (take-append-drop len text) ∙ ap (λ t. t ++ drop len text) (sym front)
    ∙ ap (λ t. (size ++ 58 ∷ []) ++ t) (sym back)) bare whole value

-- each row's size is short enough
pub row_short : (row : ℕ) → row < 16 → (2 < get_or lengths row 0) × (get_or lengths row 0 < 7)
row_short zero below = (omega arith, omega arith)
row_short (suc zero) below = (omega arith, omega arith)
row_short (suc (suc zero)) below = (omega arith, omega arith)
row_short (suc (suc (suc zero))) below = (omega arith, omega arith)
row_short (suc (suc (suc (suc zero)))) below = (omega arith, omega arith)
row_short (suc (suc (suc (suc (suc zero))))) below = (omega arith, omega arith)
row_short (suc (suc (suc (suc (suc (suc zero)))))) below = (omega arith, omega arith)
row_short (suc (suc (suc (suc (suc (suc (suc zero))))))) below = (omega arith, omega arith)
row_short (suc (suc (suc (suc (suc (suc (suc (suc zero)))))))) below = (omega arith, omega arith)
row_short (suc (suc (suc (suc (suc (suc (suc (suc (suc zero))))))))) below = (omega arith, omega arith)
row_short (suc (suc (suc (suc (suc (suc (suc (suc (suc (suc zero)))))))))) below = (omega arith, omega arith)
row_short (suc (suc (suc (suc (suc (suc (suc (suc (suc (suc (suc zero))))))))))) below = (omega arith, omega arith)
row_short (suc (suc (suc (suc (suc (suc (suc (suc (suc (suc (suc (suc zero)))))))))))) below = (omega arith, omega arith)
row_short (suc (suc (suc (suc (suc (suc (suc (suc (suc (suc (suc (suc (suc zero))))))))))))) below = (omega arith, omega arith)
row_short (suc (suc (suc (suc (suc (suc (suc (suc (suc (suc (suc (suc (suc (suc zero)))))))))))))) below = (omega arith, omega arith)
row_short (suc (suc (suc (suc (suc (suc (suc (suc (suc (suc (suc (suc (suc (suc (suc zero))))))))))))))) below = (omega arith, omega arith)
row_short (suc (suc (suc (suc (suc (suc (suc (suc (suc (suc (suc (suc (suc (suc (suc (suc n)))))))))))))))) below = absurd (omega arith)

-- each row's text is a size and its colon
pub row_is : (text rest : List ℕ) (word row : ℕ) → ((i : ℕ) → get_or text i 0 < 256) → 8 ≤ length text → word ≡ from_le_bytes w64 text → row < 16
    → word * 2 ^ (64 - 8 * get_or lengths row 0) % 18446744073709551616 ≡ get_or texts row 0
    → rest ≡ take (length text - get_or lengths row 0) (drop (get_or lengths row 0) text)
    → Sizes text (get_or exponents row 0) rest
unfolding exponent_of
row_is text rest word zero each long is below same after =
    row_sizes text (codes "8192") rest word 13 5 4193477086591057920 (record { each = each; long = long; is = is; same = same }) (omega arith)
    (omega arith) refl refl refl refl after
row_is text rest word (suc zero) each long is below same after =
    row_sizes text (codes "32") rest word 5 3 4193470278128369664 (record { each = each; long = long; is = is; same = same }) (omega arith)
    (omega arith) refl refl refl refl after
row_is text rest word (suc (suc zero)) each long is below same after =
    row_sizes text (codes "1024") rest word 10 5 4194032335550676992 (record { each = each; long = long; is = is; same = same }) (omega arith)
    (omega arith) refl refl refl refl after
row_is text rest word (suc (suc (suc zero))) each long is below same after =
    row_sizes text (codes "512") rest word 9 4 4193468306738380800 (record { each = each; long = long; is = is; same = same }) (omega arith)
    (omega arith) refl refl refl refl after
row_is text rest word (suc (suc (suc (suc zero)))) each long is below same after =
    row_sizes text (codes "65536") rest word 16 6 4194596406561210368 (record { each = each; long = long; is = is; same = same }) (omega arith)
    (omega arith) refl refl refl refl after
row_is text rest word (suc (suc (suc (suc (suc zero))))) each long is below same after =
    row_sizes text (codes "32") rest word 5 3 4193470278128369664 (record { each = each; long = long; is = is; same = same }) (omega arith)
    (omega arith) refl refl refl refl after
row_is text rest word (suc (suc (suc (suc (suc (suc zero)))))) each long is below same after =
    row_sizes text (codes "32") rest word 5 3 4193470278128369664 (record { each = each; long = long; is = is; same = same }) (omega arith)
    (omega arith) refl refl refl refl after
row_is text rest word (suc (suc (suc (suc (suc (suc (suc zero))))))) each long is below same after =
    row_sizes text (codes "64") rest word 6 3 4194036526616674304 (record { each = each; long = long; is = is; same = same }) (omega arith)
    (omega arith) refl refl refl refl after
row_is text rest word (suc (suc (suc (suc (suc (suc (suc (suc zero)))))))) each long is below same after =
    row_sizes text (codes "256") rest word 8 4 4194598591806832640 (record { each = each; long = long; is = is; same = same }) (omega arith)
    (omega arith) refl refl refl refl after
row_is text rest word (suc (suc (suc (suc (suc (suc (suc (suc (suc zero))))))))) each long is below same after =
    row_sizes text (codes "32768") rest word 15 6 4195162663588921344 (record { each = each; long = long; is = is; same = same }) (omega arith)
    (omega arith) refl refl refl refl after
row_is text rest word (suc (suc (suc (suc (suc (suc (suc (suc (suc (suc zero)))))))))) each long is below same after =
    row_sizes text (codes "2048") rest word 11 5 4195160434497552384 (record { each = each; long = long; is = is; same = same }) (omega arith)
    (omega arith) refl refl refl refl after
row_is text rest word (suc (suc (suc (suc (suc (suc (suc (suc (suc (suc (suc zero))))))))))) each long is below same after =
    row_sizes text (codes "32") rest word 5 3 4193470278128369664 (record { each = each; long = long; is = is; same = same }) (omega arith)
    (omega arith) refl refl refl refl after
row_is text rest word (suc (suc (suc (suc (suc (suc (suc (suc (suc (suc (suc (suc zero)))))))))))) each long is below same after =
    row_sizes text (codes "16384") rest word 14 6 4194038945592442880 (record { each = each; long = long; is = is; same = same }) (omega arith)
    (omega arith) refl refl refl refl after
row_is text rest word (suc (suc (suc (suc (suc (suc (suc (suc (suc (suc (suc (suc (suc zero))))))))))))) each long is below same after =
    row_sizes text (codes "128") rest word 7 4 4195158238930403328 (record { each = each; long = long; is = is; same = same }) (omega arith)
    (omega arith) refl refl refl refl after
row_is text rest word (suc (suc (suc (suc (suc (suc (suc (suc (suc (suc (suc (suc (suc (suc zero)))))))))))))) each long is below same after =
    row_sizes text (codes "32") rest word 5 3 4193470278128369664 (record { each = each; long = long; is = is; same = same }) (omega arith)
    (omega arith) refl refl refl refl after
row_is text rest word (suc (suc (suc (suc (suc (suc (suc (suc (suc (suc (suc (suc (suc (suc (suc zero))))))))))))))) each long is below same after =
    row_sizes text (codes "4096") rest word 12 5 4194602982135824384 (record { each = each; long = long; is = is; same = same }) (omega arith)
    (omega arith) refl refl refl refl after
row_is text rest word (suc (suc (suc (suc (suc (suc (suc (suc (suc (suc (suc (suc (suc (suc (suc (suc n)))))))))))))))) each long is below same
    after = absurd (omega arith)

-- only the rows of the shortest sizes have texts that end as these do
pub row_shortest : (word row : ℕ) → row < 16 → word * 2 ^ 40 % 18446744073709551616 ≡ get_or texts row 0 → get_or lengths row 0 ≡ 3
row_shortest word zero below same = absurd (omega (arith, same))
row_shortest word (suc zero) below same = refl
row_shortest word (suc (suc zero)) below same = absurd (omega (arith, same))
row_shortest word (suc (suc (suc zero))) below same = absurd (omega (arith, same))
row_shortest word (suc (suc (suc (suc zero)))) below same = absurd (omega (arith, same))
row_shortest word (suc (suc (suc (suc (suc zero))))) below same = refl
row_shortest word (suc (suc (suc (suc (suc (suc zero)))))) below same = refl
row_shortest word (suc (suc (suc (suc (suc (suc (suc zero))))))) below same = refl
row_shortest word (suc (suc (suc (suc (suc (suc (suc (suc zero)))))))) below same = absurd (omega (arith, same))
row_shortest word (suc (suc (suc (suc (suc (suc (suc (suc (suc zero))))))))) below same = absurd (omega (arith, same))
row_shortest word (suc (suc (suc (suc (suc (suc (suc (suc (suc (suc zero)))))))))) below same = absurd (omega (arith, same))
row_shortest word (suc (suc (suc (suc (suc (suc (suc (suc (suc (suc (suc zero))))))))))) below same = refl
row_shortest word (suc (suc (suc (suc (suc (suc (suc (suc (suc (suc (suc (suc zero)))))))))))) below same = absurd (omega (arith, same))
row_shortest word (suc (suc (suc (suc (suc (suc (suc (suc (suc (suc (suc (suc (suc zero))))))))))))) below same = absurd (omega (arith, same))
row_shortest word (suc (suc (suc (suc (suc (suc (suc (suc (suc (suc (suc (suc (suc (suc zero)))))))))))))) below same = refl
row_shortest word (suc (suc (suc (suc (suc (suc (suc (suc (suc (suc (suc (suc (suc (suc (suc zero))))))))))))))) below same = absurd (omega (arith, same))
row_shortest word (suc (suc (suc (suc (suc (suc (suc (suc (suc (suc (suc (suc (suc (suc (suc (suc n)))))))))))))))) below same = absurd (omega arith)

-- and each such row's text is a size and its colon
pub row_is_shortest : (text rest : List ℕ) (word row : ℕ) → ((i : ℕ) → get_or text i 0 < 256) → 8 ≤ length text → word ≡ from_le_bytes w64 text → row < 16
    → word * 2 ^ 40 % 18446744073709551616 ≡ get_or texts row 0
    → rest ≡ take (length text - 3) (drop 3 text)
    → Sizes text (get_or exponents row 0) rest
row_is_shortest text rest word row each long is below same after =
    let three = sym (row_shortest word row below same) in
    row_is text rest word row each long is below (ap (λ n. word * 2 ^ (64 - 8 * n) % 18446744073709551616) (sym three) ∙ same) (after
    ∙ ap (λ n. take (length text - n) (drop n text)) three)
