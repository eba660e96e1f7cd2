-- Facts of each element of a list, and filters.
use Rattle.std.proofs.Common.{◌≡◌, ℕ, zero, suc, Bool, true, false, cond, List, [], ◌∷◌, ◌++◌, take, drop, inl, inr, refl, ap, sym, ◌∙◌}
use Rattle.std.proofs.lemmas.Bool.{cases_Bool}
use Rattle.std.specs.List.{filter}
use Rattle.warp_base.specs.Events.{Each}

module _ {X : Type 0} (Q : X → Type 0) where
  pub Each-append : (xs ys : List X) → Each Q xs → Each Q ys → Each Q (xs ++ ys)
  Each-append [] ys h g = g
  Each-append (x ∷ xs) ys h g = (h.0, Each-append xs ys h.1 g)

  pub Each-front : (xs ys : List X) → Each Q (xs ++ ys) → Each Q xs
  Each-front [] ys h = tt
  Each-front (x ∷ xs) ys h = (h.0, Each-front xs ys h.1)

  pub Each-back : (xs ys : List X) → Each Q (xs ++ ys) → Each Q ys
  Each-back [] ys h = h
  Each-back (x ∷ xs) ys h = Each-back xs ys h.1

  pub Each-take : (n : ℕ) (xs : List X) → Each Q xs → Each Q (take n xs)
  Each-take zero xs h = tt
  Each-take (suc n) [] h = tt
  Each-take (suc n) (x ∷ xs) h = (h.0, Each-take n xs h.1)

  pub Each-drop : (n : ℕ) (xs : List X) → Each Q xs → Each Q (drop n xs)
  Each-drop zero xs h = h
  Each-drop (suc n) [] h = tt
  Each-drop (suc n) (x ∷ xs) h = Each-drop n xs h.1

  pub Each-weaker : (R : X → Type 0) → ((x : X) → Q x → R x) → (xs : List X) → Each Q xs → Each R xs
  Each-weaker R weaker [] h = tt
  Each-weaker R weaker (x ∷ xs) h = (weaker x h.0, Each-weaker R weaker xs h.1)

module _ {X : Type 0} (test : X → Bool) where
  pub filter_yes : (x : X) (xs : List X) → test x ≡ true → filter test (x ∷ xs) ≡ x ∷ filter test xs
  filter_yes x xs holds = ap (λ b. cond b (x ∷ filter test xs) (filter test xs)) holds

  pub filter_no : (x : X) (xs : List X) → test x ≡ false → filter test (x ∷ xs) ≡ filter test xs
  filter_no x xs fails = ap (λ b. cond b (x ∷ filter test xs) (filter test xs)) fails

  pub filter-++ : (xs ys : List X) → filter test (xs ++ ys) ≡ filter test xs ++ filter test ys
  filter-++ [] ys = refl
  filter-++ (x ∷ xs) ys =
      elim (cases_Bool (test x)) as (λ _. filter test ((x ∷ xs) ++ ys) ≡ filter test (x ∷ xs) ++ filter test ys) [
        | inl holds ↦ (filter_yes x (xs ++ ys) holds ∙ ap (λ l. x ∷ l) (filter-++ xs ys) ∙ ap (λ l. l ++ filter test ys) (sym (filter_yes x xs holds)))
        | inr fails ↦ (filter_no x (xs ++ ys) fails ∙ filter-++ xs ys ∙ ap (λ l. l ++ filter test ys) (sym (filter_no x xs fails)))
      ]

  pub Each-filter : (Q : X → Type 0) (xs : List X) → Each Q xs → Each Q (filter test xs)
  Each-filter Q [] h = tt
  Each-filter Q (x ∷ xs) h =
      elim (cases_Bool (test x)) as (λ _. Each Q (filter test (x ∷ xs))) [
        | inl holds ↦ rw (filter_yes x xs holds) (h.0, Each-filter Q xs h.1)
        | inr fails ↦ rw (filter_no x xs fails) (Each-filter Q xs h.1)
      ]

  -- what passes meets what the test tells
  pub Each-passed : (Q : X → Type 0) → ((x : X) → test x ≡ true → Q x) → (xs : List X) → Each Q (filter test xs)
  Each-passed Q tells [] = tt
  Each-passed Q tells (x ∷ xs) =
      elim (cases_Bool (test x)) as (λ _. Each Q (filter test (x ∷ xs))) [
        | inl holds ↦ rw (filter_yes x xs holds) (tells x holds, Each-passed Q tells xs)
        | inr fails ↦ rw (filter_no x xs fails) (Each-passed Q tells xs)
      ]

  -- nothing passes, or all does
  pub filter_none : (xs : List X) → Each (λ x. test x ≡ false) xs → filter test xs ≡ []
  filter_none [] h = refl
  filter_none (x ∷ xs) h = filter_no x xs h.0 ∙ filter_none xs h.1

  pub filter_all : (xs : List X) → Each (λ x. test x ≡ true) xs → filter test xs ≡ xs
  filter_all [] h = refl
  filter_all (x ∷ xs) h = filter_yes x xs h.0 ∙ ap (λ l. x ∷ l) (filter_all xs h.1)

-- two filters in either order
pub filter_twice : {X : Type 0} (one two : X → Bool) (xs : List X) → filter one (filter two xs) ≡ filter two (filter one xs)
filter_twice one two [] = refl
filter_twice one two (x ∷ xs) =
    let rest = filter_twice one two xs in
    elim (cases_Bool (one x)) as (λ _. filter one (filter two (x ∷ xs)) ≡ filter two (filter one (x ∷ xs))) [
      | inl first ↦ elim (cases_Bool (two x)) as (λ _. filter one (filter two (x ∷ xs)) ≡ filter two (filter one (x ∷ xs))) [
        | inl second ↦ (ap (filter one) (filter_yes two x xs second) ∙ filter_yes one x (filter two xs) first ∙ ap (λ l. x ∷ l) rest ∙ sym (filter_yes two x (filter one xs) second) ∙ ap (filter two) (sym (filter_yes one x xs first)))
        | inr not_second ↦ (ap (filter one) (filter_no two x xs not_second) ∙ rest ∙ sym (filter_no two x (filter one xs) not_second) ∙ ap (filter two) (sym (filter_yes one x xs first)))
      ]
      | inr not_first ↦ elim (cases_Bool (two x)) as (λ _. filter one (filter two (x ∷ xs)) ≡ filter two (filter one (x ∷ xs))) [
        | inl second ↦ (ap (filter one) (filter_yes two x xs second) ∙ filter_no one x (filter two xs) not_first ∙ rest ∙ ap (filter two) (sym (filter_no one x xs not_first)))
        | inr not_second ↦ (ap (filter one) (filter_no two x xs not_second) ∙ rest ∙ ap (filter two) (sym (filter_no one x xs not_first)))
      ]
    ]
