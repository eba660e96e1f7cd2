-- Lists whose first elements leave them, or whose last ones do.
use Rattle.std.proofs.Common.{◌≡◌, ℕ, ◌+◌, List, [], ◌∷◌, ◌++◌, map, sum_by, All, Some, ap, subst, ◌∙◌, arith}
use Rattle.std.proofs.lemmas.List.{get_or-map, length-map}
use Rattle.std.proofs.lemmas.List.Elements.{All-pop, All-same}
use Rattle.std.proofs.lemmas.List.Sums.{sum_by_push}

-- two lists of numbers with equal heads and tails
pub one_tail : (x y : ℕ) (xs ys : List ℕ) → x ∷ xs ≡ y ∷ ys → xs ≡ ys
one_tail x y xs ys same = cc same

pub one_head : (x y : ℕ) (xs ys : List ℕ) → x ∷ xs ≡ y ∷ ys → x ≡ y
one_head x y xs ys same = cc same

module _ {X : Type 0} where
  -- what is true of each of a list is true of those before its last, and of that
  pub all_front : (P : X → Type 0) (xs all : List X) (x : X) → all ≡ xs ++ x ∷ [] → All P all → All P xs
  all_front P xs all x is h = (All-pop P all xs (Some x) is h).0

  pub all_last : (P : X → Type 0) (xs all : List X) (x : X) → all ≡ xs ++ x ∷ [] → All P all → P x
  all_last P xs all x is h = (All-pop P all xs (Some x) is h).1

  -- where the images of a list all have a property, its elements have that of their image
  pub all_images : {Y : Type 0} (f : X → Y) (P : Y → Type 0) (xs : List X) (ys : List Y) → map f xs ≡ ys → All P ys → All (λ x. P (f x)) xs
  all_images f P xs ys is h k d within =
      subst P (get_or-map f xs k d (f d) within) (All-same P (map f xs) ys is h k (f d) (omega (arith, within, length-map xs f)))

  pub sum_last : (f : X → ℕ) (xs all : List X) (x : X) → all ≡ xs ++ x ∷ [] → sum_by f all ≡ sum_by f xs + f x
  sum_last f xs all x is = ap (sum_by f) is ∙ sum_by_push f xs x
