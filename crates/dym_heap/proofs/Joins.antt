-- Ranges that follow on each other, and lists of numbers one after the other.
use Rattle.std.proofs.Common.{◌≡◌, ℕ, zero, suc, ◌+◌, ◌-◌, ◌<◌, ◌≤◌, inl, inr, List, ◌++◌, length, get_or, refl, sym, ap, ◌∙◌, arith}
use Rattle.std.specs.List.{flat_map, between, range_with_len}
use Rattle.std.proofs.lemmas.Bool.{cases_lt}
use Rattle.std.proofs.lemmas.List.{same_lists, get_or_append_left, get_or-append_right, length-append}
use Rattle.std.proofs.lemmas.List.Edits.{length-between, get_or-between}

pub between-join : {X : Type 0} (a b c : ℕ) (xs : List X) → a ≤ b → b ≤ c → c ≤ length xs → between a b xs ++ between b c xs ≡ between a c xs
between-join a b c xs low high fits =
    let first = length-between xs a b (omega arith) in
    let second = length-between xs b c fits in
    let whole = length-between xs a c fits in
    let joined = length-append (between a b xs) (between b c xs) in
    same_lists (between a b xs ++ between b c xs) (between a c xs) (omega arith)
    (λ j d l.
    elim (cases_lt j (b - a)) as (λ _. get_or (between a b xs ++ between b c xs) j d ≡ get_or (between a c xs) j d) [
      | inl left ↦ get_or_append_left (between a b xs) (between b c xs) d j (omega arith) ∙ get_or-between xs a b j d (omega arith) ∙ sym (get_or-between xs a c j d (omega arith))
      | inr right ↦
          get_or-append_right (between a b xs) (between b c xs) (b - a) j d first right
          ∙ get_or-between xs b c (j - (b - a)) d (omega arith)
          ∙ (let e : b + (j - (b - a)) ≡ a + j = omega arith in ap (λ i. get_or xs i d) e)
          ∙ sym (get_or-between xs a c j d (omega arith))
    ])

pub flat-same : {X : Type 0} (f g : ℕ → List X) (a n : ℕ) → ((i : ℕ) → a ≤ i → i < a + n → f i ≡ g i) → flat_map f (range_with_len a n) ≡ flat_map g (range_with_len a n)
flat-same f g a zero same = refl
flat-same f g a (suc n) same =
    ap (λ xs. xs ++ flat_map f (range_with_len (a + 1) n)) (same a (omega arith) (omega arith))
    ∙ ap (λ xs. g a ++ xs) (flat-same f g (a + 1) n (λ i low high. same i (omega arith) (omega arith)))
