-- Lists of a region's identities.
use Rattle.std.proofs.Common.{◌≡◌, ℕ, zero, suc, ◌+◌, ◌-◌, ◌<◌, ◌≤◌, eqb, List, [], ◌∷◌, ◌++◌, length, map, get_or, refl, sym, ap, ◌∙◌, subst, arith, add-one, slice_index}
use Rattle.std.proofs.lemmas.List.{length-map, get_or-map, map-append, length_push, same_lists}
use Rattle.std.proofs.lemmas.Bool.{ne_eqb}
use Rattle.std.proofs.lemmas.List.Elements.{All-map}
use Rattle.std.proofs.lemmas.List.Sorted.{All-permutation, IsPermutation-map, IsPermutation-trans, length_permutation}
use Rattle.std.proofs.lemmas.Map.Keys.{IsDistinct-from_apart, IsDistinct-IsPermutation, IsStrictlyIncreasing-from_distinct}
use Rattle.std.proofs.lemmas.Grind.{common_steps}
use Rattle.std.specs.List.{All, IsDistinct}
use Rattle.std.specs.List.Sorted.{IsPermutation, IsNonDecreasing, IsNonDecreasingBy, IsStrictlyIncreasing}
use Rattle.dym_region.specs.declared.segment.SegmentId.{SegmentId}
use Rattle.dym_region.specs.Identity.{ids_of, AreDistinct}

-- the identity with this number
abbrev pub id_at : ℕ → ℕ → SegmentId
id_at r k = record { region = r; number = k }

pub length-ids_of : (r n : ℕ) → length (ids_of r n) ≡ n
length-ids_of r zero = refl
length-ids_of r (suc n) = length_push (ids_of r n) (id_at r n) ∙ ap (λ k. k + 1) (length-ids_of r n) ∙ add-one n

pub get_or-ids_of : (r n i : ℕ) (d : SegmentId) → i < n → get_or (ids_of r n) i d ≡ id_at r i
get_or-ids_of r zero i d below = absurd (omega (arith, below))
get_or-ids_of r (suc n) i d below =
    grind (arith, common_steps, length-ids_of r n, below, (λ (h : i < n). get_or-ids_of r n i d h))

-- identities with different numbers differ
pub ids_of-distinct : (r n : ℕ) → AreDistinct (ids_of r n)
ids_of-distinct r n i j d first below same =
    let fits : j < n = subst (λ k. j < k) (length-ids_of r n) below in
    let numbers : i ≡ j = ap (λ x. x.number) (sym (get_or-ids_of r n i d (omega (arith, first, fits))) ∙ same ∙ get_or-ids_of r n j d fits) in
    omega (arith, first, numbers)

-- two lists that end in one element each are equal only in both parts
pub push_parts : {X : Type 0} (xs ys : List X) (x y : X) → xs ++ x ∷ [] ≡ ys ++ y ∷ [] → (xs ≡ ys) × (x ≡ y)
push_parts [] [] x y e = (refl, cc)
push_parts [] (b ∷ ys) x y e = absurd (omega (arith, ap length e, length_push ys y))
push_parts (a ∷ xs) [] x y e = absurd (omega (arith, ap length e, length_push xs x))
push_parts (a ∷ xs) (b ∷ ys) x y e =
    let rest : xs ++ x ∷ [] ≡ ys ++ y ∷ [] = cc in
    let parts = push_parts xs ys x y rest in
    let first : a ≡ b = cc in
    let same : xs ≡ ys = parts.0 in
    ((λ i. first i ∷ same i), parts.1)

module _ {X : Type 0} (id : X → SegmentId) where
  -- one more segment is numbered
  pub numbered_push : (xs : List X) (x : X) (r k : ℕ) → map id xs ≡ ids_of r k → id x ≡ id_at r k → map id (xs ++ x ∷ []) ≡ ids_of r (k + 1)
  numbered_push xs x r k these this =
      map-append id xs (x ∷ []) ∙ (λ i. these i ++ this i ∷ []) ∙ sym (ap (ids_of r) (add-one k))

  -- the last of the numbered segments is taken off
  pub numbered_pop : (xs ys : List X) (x : X) (r n m : ℕ) → map id xs ≡ ids_of r n → xs ≡ ys ++ x ∷ [] → m + 1 ≡ n → (map id ys ≡ ids_of r m) × (id x ≡ id_at r m)
  numbered_pop xs ys x r n m these is count =
      let all : map id ys ++ id x ∷ [] ≡ ids_of r m ++ id_at r m ∷ [] =
      sym (map-append id ys (x ∷ [])) ∙ ap (map id) (sym is) ∙ these ∙ ap (ids_of r) (sym count ∙ add-one m) in
      push_parts (map id ys) (ids_of r m) (id x) (id_at r m) all

-- n numbers below n that rise are 0 to n - 1
low : (ms : List ℕ) → IsStrictlyIncreasing ms → (i : ℕ) → i < length ms → i ≤ slice_index ms i
low ms rises zero fits = omega arith
low ms rises (suc i) fits =
    let before = low ms rises i (omega (arith, fits)) in
    let step = rises i (omega (arith, fits, add-one i)) in
    omega (arith, before, subst (λ k. slice_index ms i < slice_index ms k) (add-one i) step)

high : (ms : List ℕ) → IsStrictlyIncreasing ms → All (λ m. m < length ms) ms → (k i : ℕ) → i + k + 1 ≡ length ms → slice_index ms i + k < length ms
high ms rises small zero i end = omega (arith, small i 0 (omega (arith, end)))
high ms rises small (suc k) i end =
    let after = high ms rises small k (i + 1) (omega (arith, end)) in
    let step = rises i (omega (arith, end)) in
    omega (arith, after, step)

pub pinned : (ms : List ℕ) → IsStrictlyIncreasing ms → All (λ m. m < length ms) ms → (i : ℕ) → i < length ms → slice_index ms i ≡ i
pinned ms rises small i fits =
    omega (arith, low ms rises i fits, high ms rises small (length ms - (i + 1)) i (omega (arith, fits)))

eqb_flips : (x y : ℕ) → eqb x y ≡ eqb y x
eqb_flips x y = grind arith

module _ (r n : ℕ) (ids : List SegmentId) (all : IsPermutation (ids_of r n) ids) where
  abbrev numbers : List ℕ
  numbers = map (λ s. s.number) ids

  long : length ids ≡ n
  long = length_permutation (ids_of r n) ids all ∙ length-ids_of r n

  as_many : length numbers ≡ n
  as_many = length-map ids (λ s. s.number) ∙ long

  -- what holds of each identity of the region holds of each in the list
  each : (P : SegmentId → Type 0) → ((k : ℕ) → k < n → P (id_at r k)) → All P ids
  each P holds = All-permutation P (ids_of r n) ids all (λ k d fits.
      let below : k < n = subst (λ m. k < m) (length-ids_of r n) fits in
      subst P (sym (get_or-ids_of r n k d below)) (holds k below))

  distinct : IsDistinct eqb numbers
  distinct =
      IsDistinct-IsPermutation eqb eqb_flips (map (λ s. s.number) (ids_of r n)) numbers (IsPermutation-map (λ s. s.number) (ids_of r n) ids all)
      (IsDistinct-from_apart eqb (map (λ s. s.number) (ids_of r n)) (λ i j d first below.
      let fits : j < n = subst (λ m. j < m) (length-map (ids_of r n) (λ s. s.number) ∙ length-ids_of r n) below in
      let number_at : (k : ℕ) → k < n → get_or (map (λ s. s.number) (ids_of r n)) k d ≡ k = λ k small.
      get_or-map (λ s. s.number) (ids_of r n) k (id_at r 0) d (subst (λ m. k < m) (sym (length-ids_of r n)) small) ∙ ap (λ s. s.number) (get_or-ids_of r n k (id_at r 0) small) in
      let there : ℕ → ℕ = λ k. get_or (map (λ s. s.number) (ids_of r n)) k d in
      ne_eqb (there i) (there j) (λ (same : there i ≡ there j). omega (arith, first, sym (number_at i (omega (arith, first, fits))) ∙ same ∙ number_at j fits))))

  -- the region's identities, in the order of their numbers, are the list of them
  pub sorted_ids : IsNonDecreasingBy (λ s. s.number) ids → ids ≡ ids_of r n
  sorted_ids rises =
      let at : (k : ℕ) (d : SegmentId) (e : ℕ) → k < length ids → get_or numbers k e ≡ (get_or ids k d).number = λ k d e fits. get_or-map (λ s. s.number) ids k d e fits in
      let up : IsNonDecreasing numbers = λ i j d first below.
      let fits : j < length ids = subst (λ m. j < m) (length-map ids (λ s. s.number)) below in
      let low_at = at i (id_at r 0) d (omega (arith, first, fits)) in
      let high_at = at j (id_at r 0) d fits in
      omega (arith, low_at, high_at, rises i j (id_at r 0) first fits) in
      let strict : IsStrictlyIncreasing numbers = IsStrictlyIncreasing-from_distinct numbers up distinct in
      let small : All (λ m. m < length numbers) numbers = All-map (λ m. m < length numbers) (λ s. s.number) ids (each (λ s. s.number < length numbers) (λ k below. subst (λ m. k < m) (sym as_many) below)) in
      let home : All (λ s. s.region ≡ r) ids = each (λ s. s.region ≡ r) (λ k below. refl) in
      same_lists ids (ids_of r n) (long ∙ sym (length-ids_of r n)) (λ k d fits.
      let number : (get_or ids k d).number ≡ k = sym (at k d 0 fits) ∙ pinned numbers strict small k (subst (λ m. k < m) (sym (length-map ids (λ s. s.number))) fits) in
      let region : (get_or ids k d).region ≡ r = home k d fits in
      let whole : get_or ids k d ≡ id_at r k = λ i. record { region = region i; number = number i } in
      whole ∙ sym (get_or-ids_of r n k d (subst (λ m. k < m) long fits)))

-- what rises along a list rises along its image
rises_mapped : {X : Type 0} (id : X → SegmentId) (ys : List X) → IsNonDecreasingBy (λ x. (id x).number) ys → IsNonDecreasingBy (λ s. s.number) (map id ys)
rises_mapped id [] rises i j d first below = absurd (omega (arith, below))
rises_mapped id (y ∷ ys) rises i j d first below =
    let fits : j < length (y ∷ ys) = subst (λ m. j < m) (length-map (y ∷ ys) id) below in
    let at : (k : ℕ) → k < length (y ∷ ys) → get_or (map id (y ∷ ys)) k d ≡ id (get_or (y ∷ ys) k y) = λ k small. get_or-map id (y ∷ ys) k y d small in
    omega (arith, ap (λ s. s.number) (at i (omega (arith, first, fits))), ap (λ s. s.number) (at j fits), rises i j y first fits)

-- segments in the order of their numbers, which are all of a region's
pub numbered_sort : {X : Type 0} (id : X → SegmentId) (r n : ℕ) (xs ys : List X) → IsPermutation (ids_of r n) (map id xs) → IsPermutation xs ys → IsNonDecreasingBy (λ x. (id x).number) ys
    → map id ys ≡ ids_of r n
numbered_sort id r n xs ys all sorts rises =
    sorted_ids r n (map id ys) (IsPermutation-trans (ids_of r n) (map id xs) (map id ys) all (IsPermutation-map id xs ys sorts)) (rises_mapped id ys rises)
