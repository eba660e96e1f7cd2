-- The order of lists of numbers is total, and lists that are each at or before the other are one.
use Rattle.std.proofs.Common.{◌≡◌, ℕ, ◌<◌, ◌⊎◌, inl, inr, true, false, List, [], ◌∷◌, refl, sym, ◌∙◌, arith}
use Rattle.std.proofs.lemmas.Bool.{cases_order, lt-ltb, le-ltb, eq-eqb, ne_eqb, cases_eq}
use Rattle.warp_base.specs.Words.{lexically, same_numbers}

pub same_numbers-refl : (xs : List ℕ) → same_numbers xs xs ≡ true
unfolding same_numbers
same_numbers-refl [] = refl
same_numbers-refl (x ∷ xs) = rw (eq-eqb x x refl) (same_numbers-refl xs)

pub same_numbers-true : (xs ys : List ℕ) → same_numbers xs ys ≡ true → xs ≡ ys
unfolding same_numbers
same_numbers-true [] [] h = refl
same_numbers-true [] (y ∷ ys) h = cc
same_numbers-true (x ∷ xs) [] h = cc
same_numbers-true (x ∷ xs) (y ∷ ys) h =
    elim (cases_eq x y) [
      | inl one ↦ (let rest : xs ≡ ys = same_numbers-true xs ys (rw (eq-eqb x y one) at h) in cc)
      | inr two ↦ (let no : false ≡ true = rw (ne_eqb x y two) at h in cc)
    ]

-- how two lists compare by their first numbers
pub lexically-same : (x y : ℕ) (xs ys : List ℕ) → x ≡ y → lexically (x ∷ xs) (y ∷ ys) ≡ lexically xs ys
unfolding lexically
lexically-same x y xs ys one = rw (le-ltb x y (omega (arith, one)), eq-eqb x y one) refl

pub lexically-less : (x y : ℕ) (xs ys : List ℕ) → x < y → lexically (x ∷ xs) (y ∷ ys) ≡ true
unfolding lexically
lexically-less x y xs ys less = rw (lt-ltb x y less) refl

pub lexically-more : (x y : ℕ) (xs ys : List ℕ) → y < x → lexically (x ∷ xs) (y ∷ ys) ≡ false
unfolding lexically
lexically-more x y xs ys more = rw (le-ltb x y (omega (arith, more)), ne_eqb x y (λ one. omega (arith, one, more))) refl

pub lexically-total : (xs ys : List ℕ) → lexically xs ys ≡ false → lexically ys xs ≡ true
unfolding lexically
lexically-total [] ys h = cc
lexically-total (x ∷ xs) [] h = refl
lexically-total (x ∷ xs) (y ∷ ys) h =
    elim (cases_order x y) [
      | inl one ↦ (let rest = sym (lexically-same x y xs ys one) ∙ h in lexically-same y x ys xs (sym one) ∙ lexically-total xs ys rest)
      | inr other ↦ elim other [
        | inl less ↦ (let yes = lexically-less x y xs ys less in cc)
        | inr more ↦ lexically-less y x ys xs more
      ]
    ]

pub lexically-one : (xs ys : List ℕ) → lexically xs ys ≡ true → lexically ys xs ≡ true → xs ≡ ys
unfolding lexically
lexically-one [] [] h g = refl
lexically-one [] (y ∷ ys) h g = cc
lexically-one (x ∷ xs) [] h g = cc
lexically-one (x ∷ xs) (y ∷ ys) h g =
    elim (cases_order x y) [
      | inl one ↦ (let rest = lexically-one xs ys (sym (lexically-same x y xs ys one) ∙ h) (sym (lexically-same y x ys xs (sym one)) ∙ g) in cc)
      | inr other ↦ elim other [
        | inl less ↦ (let no = lexically-more y x ys xs less in cc)
        | inr more ↦ (let no = lexically-more x y xs ys more in cc)
      ]
    ]

-- the first number of a list that is at or before another
pub lexically-head : (x y : ℕ) (xs ys : List ℕ) → lexically (x ∷ xs) (y ∷ ys) ≡ true → (x < y) ⊎ ((x ≡ y) × (lexically xs ys ≡ true))
lexically-head x y xs ys h =
    elim (cases_order x y) [
      | inl one ↦ inr (one, sym (lexically-same x y xs ys one) ∙ h)
      | inr other ↦ elim other [
        | inl less ↦ inl less
        | inr more ↦ (let no = lexically-more x y xs ys more in cc)
      ]
    ]

pub lexically-trans : (xs ys zs : List ℕ) → lexically xs ys ≡ true → lexically ys zs ≡ true → lexically xs zs ≡ true
unfolding lexically
lexically-trans [] ys zs h g = refl
lexically-trans (x ∷ xs) [] zs h g = cc
lexically-trans (x ∷ xs) (y ∷ ys) [] h g = cc
lexically-trans (x ∷ xs) (y ∷ ys) (z ∷ zs) h g =
    elim (lexically-head x y xs ys h) [
      | inl less ↦ elim (lexically-head y z ys zs g) [
        | inl next ↦ lexically-less x z xs zs (omega (arith, less, next))
        | inr same ↦ (let one = same.0 in lexically-less x z xs zs (omega (arith, less, one)))
      ]
      | inr here ↦ elim (lexically-head y z ys zs g) [
        | inl next ↦ (let one = here.0 in lexically-less x z xs zs (omega (arith, one, next)))
        | inr there ↦ lexically-same x z xs zs (here.0 ∙ there.0) ∙ lexically-trans xs ys zs here.1 there.1
      ]
    ]
