-- Which elements a list has, when lists are joined and changed.
use Rattle.std.proofs.Common.{◌≡◌, ℕ, zero, suc, ◌<◌, ◌⊎◌, inl, inr, List, [], ◌∷◌, ◌++◌, length, set, get_or, sym, refl, ap, ◌∙◌, subst, arith}
use Rattle.std.specs.List.{flat_map}
use Rattle.dym_pool.specs.Shares.{Has, SameElements}

module _ {A : Type 0} where
  pub has-left : (xs ys : List A) (x : A) → Has xs x → Has (xs ++ ys) x
  has-left [] ys x h = absurd h
  has-left (z ∷ xs) ys x h = elim h [ inl e ↦ inl e | inr t ↦ inr (has-left xs ys x t) ]

  pub has-right : (xs ys : List A) (x : A) → Has ys x → Has (xs ++ ys) x
  has-right [] ys x h = h
  has-right (z ∷ xs) ys x h = inr (has-right xs ys x h)

  pub has-split : (xs ys : List A) (x : A) → Has (xs ++ ys) x → Has xs x ⊎ Has ys x
  has-split [] ys x h = inr h
  has-split (z ∷ xs) ys x h =
      elim h [ inl e ↦ inl (inl e) | inr t ↦ elim (has-split xs ys x t) [ inl l ↦ inl (inr l) | inr r ↦ inr r ] ]

  module _ {X : Type 0} (f : X → List A) where
    -- an element joins the list of the place i, whose other elements stay
    pub has-joined : (xs : List X) (i : ℕ) (s d : X) (a x : A) → i < length xs → f s ≡ f (get_or xs i d) ++ a ∷ [] → Has (flat_map f (set xs i s)) x → (a ≡ x) ⊎ Has (flat_map f xs) x
    has-joined [] i s d a x l e h = absurd h
    has-joined (y ∷ ys) zero s d a x l e h =
        elim (has-split (f s) (flat_map f ys) x h) [
          | inl t ↦ elim (has-split (f y) (a ∷ []) x (subst (λ (zs : List A). Has zs x) e t)) [
            | inl o ↦ inr (has-left (f y) (flat_map f ys) x o)
            | inr n ↦ elim n [
              | inl q ↦ inl q
              | inr z ↦ absurd z
            ]
          ]
          | inr t ↦ inr (has-right (f y) (flat_map f ys) x t)
        ]
    has-joined (y ∷ ys) (suc i) s d a x l e h =
        elim (has-split (f y) (flat_map f (set ys i s)) x h) [
          | inl t ↦ inr (has-left (f y) (flat_map f ys) x t)
          | inr t ↦ elim (has-joined ys i s d a x (omega arith) e t) [
            | inl q ↦ inl q
            | inr o ↦ inr (has-right (f y) (flat_map f ys) x o)
          ]
        ]

    pub has-kept : (xs : List X) (i : ℕ) (s d : X) (a x : A) → i < length xs → f s ≡ f (get_or xs i d) ++ a ∷ [] → (a ≡ x) ⊎ Has (flat_map f xs) x → Has (flat_map f (set xs i s)) x
    has-kept [] i s d a x l e h = absurd (omega arith)
    has-kept (y ∷ ys) zero s d a x l e h =
        let whole : Has (f y ++ a ∷ []) x → Has (f s ++ flat_map f ys) x = λ t. has-left (f s) (flat_map f ys) x (subst (λ (zs : List A). Has zs x) (sym e) t) in
        elim h [
          | inl q ↦ whole (has-right (f y) (a ∷ []) x (inl q))
          | inr o ↦ elim (has-split (f y) (flat_map f ys) x o) [
            | inl t ↦ whole (has-left (f y) (a ∷ []) x t)
            | inr t ↦ has-right (f s) (flat_map f ys) x t
          ]
        ]
    has-kept (y ∷ ys) (suc i) s d a x l e h =
        elim h [
          | inl q ↦ has-right (f y) (flat_map f (set ys i s)) x (has-kept ys i s d a x (omega arith) e (inl q))
          | inr o ↦ elim (has-split (f y) (flat_map f ys) x o) [
            | inl t ↦ has-left (f y) (flat_map f (set ys i s)) x t
            | inr t ↦ has-right (f y) (flat_map f (set ys i s)) x (has-kept ys i s d a x (omega arith) e (inr t))
          ]
        ]

    -- one more is dealt, to the place i
    pub dealt_one : (xs : List X) (i : ℕ) (s d : X) (a : A) (dealt : List A) → i < length xs → f s ≡ f (get_or xs i d) ++ a ∷ [] → SameElements (flat_map f xs) dealt → SameElements (flat_map f (set xs i s)) (dealt ++ a ∷ [])
    dealt_one xs i s d a dealt l e same = (
      (λ x h.
          has-kept xs i s d a x l e
          (elim (has-split dealt (a ∷ []) x h) [
            | inl o ↦ inr (same.0 x o)
            | inr n ↦ elim n [
              | inl q ↦ inl q
              | inr z ↦ absurd z
            ]
          ])),
      (λ x h.
          elim (has-joined xs i s d a x l e h) [
            | inl q ↦ has-right dealt (a ∷ []) x (inl q)
            | inr o ↦ has-left dealt (a ∷ []) x (same.1 x o)
          ]),
    )

    flat-none : (xs : List X) → ((k : ℕ) (d : X) → k < length xs → f (get_or xs k d) ≡ []) → flat_map f xs ≡ []
    flat-none [] none = refl
    flat-none (x ∷ xs) none = ap {B = List A} (λ l. l ++ flat_map f xs) (none 0 x (omega arith)) ∙ flat-none xs (λ k d l. none (suc k) d (omega arith))

    -- before the first is dealt, no place has anything
    pub dealt_none : (xs : List X) → ((k : ℕ) (d : X) → k < length xs → f (get_or xs k d) ≡ []) → SameElements (flat_map f xs) []
    dealt_none xs none = subst (λ (l : List A). SameElements l []) (sym (flat-none xs none)) ((λ x h. h), λ x h. h)
