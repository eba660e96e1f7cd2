-- Jobs that the pool carries: what is true of them is true of the jobs themselves.
use Rattle.std.proofs.Common.{◌≡◌, ℕ, ◌<◌, List, [], ◌∷◌, ◌++◌, map, reverse, length, refl, sym, ap, subst, ◌∙◌}
use Rattle.std.proofs.lemmas.List.{map-append, reverse-append, length-map, get_or-map}
use Rattle.std.proofs.lemmas.List.Elements.{All-nil, All-cons, All-head, All-tail}
use Rattle.dym_pool.specs.Jobs.{Numbered, labels, AllEnded, EveryJobBack}

pub map_reverse : {A B : Type 0} (f : A → B) (xs : List A) → map f (reverse xs) ≡ reverse (map f xs)
map_reverse f [] = refl
map_reverse f (x ∷ xs) =
    ap (map f) (reverse-append (x ∷ []) xs) ∙ map-append f (reverse xs) (x ∷ []) ∙ ap (λ l. l ++ f x ∷ []) (map_reverse f xs)
    ∙ sym (reverse-append (f x ∷ []) (map f xs))

module _ {C J O : Type 0} (job : C → J) (number left : J → ℕ) (origin : J → O) where
  pub numbered_carried : (carried : List C) (jobs : List J) → map job carried ≡ jobs → Numbered number jobs → Numbered (λ c. number (job c)) carried
  numbered_carried carried jobs are numbered k d within =
      let inside : k < length (map job carried) = subst (λ n. k < n) (sym (length-map carried job)) within in
      ap number (sym (get_or-map job carried k d (job d) within))
      ∙ subst (Numbered number) (sym are) numbered k (job d) inside

  same_labels : (carried : List C) → labels number origin (map job carried) ≡ labels (λ c. number (job c)) (λ c. origin (job c)) carried
  same_labels [] = refl
  same_labels (c ∷ cs) = ap (λ l. (number (job c), origin (job c)) ∷ l) (same_labels cs)

  ended : (carried : List C) → AllEnded (λ c. left (job c)) carried → AllEnded left (map job carried)
  ended [] all = All-nil (λ j. left j ≡ 0)
  ended (c ∷ cs) all =
      All-cons (λ j. left j ≡ 0) (job c) (map job cs) (All-head (λ c. left (job c) ≡ 0) c cs all) (ended cs (All-tail (λ c. left (job c) ≡ 0) c cs all))

  pub back_carried : (before after : List C) (jobs : List J) → map job before ≡ jobs
      → EveryJobBack (λ c. number (job c)) (λ c. left (job c)) (λ c. origin (job c)) before after → EveryJobBack number left origin jobs (map job after)
  back_carried before after jobs are back =
      (same_labels after ∙ back.0 ∙ sym (same_labels before) ∙ ap (labels number origin) are, ended after back.1)
