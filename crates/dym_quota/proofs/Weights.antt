-- Lists of identities by their weights: two lists have the same elements exactly where every weighing gives them the same sum.
use Rattle.std.proofs.Common.{◌≡◌, ◌≢◌, ℕ, ◌<◌, ◌⊎◌, Bool, ◌∙◌, true, false, ◌&&◌, true≢false, Decides, get_or, if◌then◌else◌, List, [], ◌∷◌, ◌++◌, length, sum_by, refl, sym, ap, subst, inl, inr, ⊎_elim, arith}
use Rattle.std.specs.Prelude.{IsPermutation}
use Rattle.std.proofs.lemmas.Map.Keys.{IsDistinct-from_apart, IsDistinct-IsPermutation}
use Rattle.std.proofs.lemmas.Map.Made.{AllPairs-from_IsDistinct}
use Rattle.dym_region.specs.Identity.{AreDistinct}
use Rattle.std.proofs.lemmas.Bool.Decides.{eqb_tells}
use Rattle.std.proofs.lemmas.List.Sums.{sum_by-cons, sum_by-append}
use Rattle.std.proofs.lemmas.List.Sorted.{IsPermutation-refl, IsPermutation-sym, IsPermutation-cons, IsPermutation-trans, IsPermutation-middle}
use Rattle.std.proofs.Math.Dec.{eqb}
use Rattle.dym_region.specs.declared.segment.SegmentId.{SegmentId}

-- whether two identities are one
abbrev pub is_same : SegmentId → SegmentId → Bool
is_same x y = eqb x.region y.region && eqb x.number y.number

same_tells : (x y : SegmentId) → ((is_same x y ≡ true) × (x ≡ y)) ⊎ ((is_same x y ≡ false) × (x ≢ y))
same_tells x y =
    ⊎_elim
    (λ (r : (eqb x.region y.region ≡ true) × (x.region ≡ y.region)).
    ⊎_elim
    (λ (n : (eqb x.number y.number ≡ true) × (x.number ≡ y.number)). inl ((λ i. r.0 i && n.0 i), (λ i. record { region = r.1 i; number = n.1 i })))
    (λ (n : (eqb x.number y.number ≡ false) × (x.number ≢ y.number)). inr ((λ i. r.0 i && n.0 i), (λ e. n.1 (ap (λ (z : SegmentId). z.number) e))))
    (eqb_tells x.number y.number))
    (λ (r : (eqb x.region y.region ≡ false) × (x.region ≢ y.region)). inr ((λ i. r.0 i && eqb x.number y.number), (λ e. r.1 (ap (λ (z : SegmentId). z.region) e))))
    (eqb_tells x.region y.region)

same_decides : (x y : SegmentId) → Decides (is_same x y) (x ≡ y)
same_decides x y =
    ⊎_elim
    (λ (k : (is_same x y ≡ true) × (x ≡ y)). ((λ _. k.1), (λ _. k.0)))
    (λ (k : (is_same x y ≡ false) × (x ≢ y)). ((λ e. absurd (true≢false (sym e ∙ k.0))), (λ e. absurd (k.1 e))))
    (same_tells x y)

same_flips : (x y : SegmentId) → is_same x y ≡ is_same y x
same_flips x y =
    ⊎_elim
    (λ (k : (is_same x y ≡ true) × (x ≡ y)). k.0 ∙ sym ((same_decides y x).1 (sym k.1)))
    (λ (k : (is_same x y ≡ false) × (x ≢ y)).
    ⊎_elim
    (λ (m : (is_same y x ≡ true) × (y ≡ x)). absurd (k.1 (sym m.1)))
    (λ (m : (is_same y x ≡ false) × (y ≢ x)). k.0 ∙ sym m.0)
    (same_tells y x))
    (same_tells x y)

-- identities that differ stay so in another order
pub distinct-permutation : (xs ys : List SegmentId) → IsPermutation xs ys → AreDistinct xs → AreDistinct ys
distinct-permutation xs ys order distinct =
    AllPairs-from_IsDistinct same_decides ys
    (IsDistinct-IsPermutation is_same same_flips xs ys order
    (IsDistinct-from_apart is_same xs (λ i j d before less.
    ⊎_elim
    (λ (k : (is_same (get_or xs i d) (get_or xs j d) ≡ true) × (get_or xs i d ≡ get_or xs j d)). absurd (distinct i j d before less k.1))
    (λ (k : (is_same (get_or xs i d) (get_or xs j d) ≡ false) × (get_or xs i d ≢ get_or xs j d)). k.0)
    (same_tells (get_or xs i d) (get_or xs j d)))))

-- one for an identity like this, and none for any other
abbrev pub is_one : SegmentId → SegmentId → ℕ
is_one x y = if is_same x y then 1 else 0

is_one-same : (x y : SegmentId) → ((is_one x y ≡ 1) × (x ≡ y)) ⊎ (is_one x y ≡ 0)
is_one-same x y =
    ⊎_elim
    (λ (k : (is_same x y ≡ true) × (x ≡ y)). inl ((λ i. if k.0 i then 1 else 0), k.1))
    (λ (k : (is_same x y ≡ false) × (x ≢ y)). inr (λ i. if k.0 i then 1 else 0))
    (same_tells x y)

is_one-self : (x : SegmentId) → is_one x x ≡ 1
is_one-self x = let same : is_same x x ≡ true = (same_decides x x).1 refl in λ i. if same i then 1 else 0

-- an identity that weighs something in a list stands in it
found : (x : SegmentId) (ys : List SegmentId) → 0 < sum_by (is_one x) ys → (front : List SegmentId) × (back : List SegmentId) × (ys ≡ front ++ x ∷ back)
found x [] some = absurd (omega arith)
found x (y ∷ ys) some =
    ⊎_elim
    (λ (e : (is_one x y ≡ 1) × (x ≡ y)). ([], ys, λ i. sym e.1 i ∷ ys))
    (λ (e : is_one x y ≡ 0).
    let r = found x ys (omega (arith, sum_by-cons (is_one x) y ys)) in (y ∷ r.0, r.1, λ i. y ∷ r.2 i))
    (is_one-same x y)

abbrev pub Weighs : List SegmentId → List SegmentId → Type 0
Weighs xs ys = (h : SegmentId → ℕ) → sum_by h xs ≡ sum_by h ys

pub sum_by-one : {X : Type 0} (xs : List X) → sum_by (λ _. 1) xs ≡ length xs
sum_by-one [] = refl
sum_by-one {X} (x ∷ xs) = let r = sum_by-one xs in omega (arith, sum_by-cons (λ (_ : X). 1) x xs)

-- what has the same weights is the same in another order
pub same_weights : (xs ys : List SegmentId) → Weighs xs ys → IsPermutation xs ys
same_weights [] [] w = IsPermutation-refl []
same_weights [] (y ∷ ys) w = let one = w (λ _. 1) in absurd (omega (arith, sum_by-one (y ∷ ys)))
same_weights (x ∷ xs) ys w =
    let here = w (is_one x) in
    let self = is_one-self x in
    let place = found x ys (omega (arith, sum_by-cons (is_one x) x xs)) in
    let front = place.0 in
    let back = place.1 in
    let rest : Weighs xs (front ++ back) = λ h.
    let all = w h in
    let there : sum_by h ys ≡ sum_by h (front ++ x ∷ back) = ap (sum_by h) place.2 in
    omega (arith, sum_by-cons h x xs, sum_by-cons h x back, sum_by-append h front (x ∷ back), sum_by-append h front back) in
    let order = IsPermutation-trans (x ∷ xs) (x ∷ (front ++ back)) (front ++ x ∷ back)
    (IsPermutation-cons x xs (front ++ back) (same_weights xs (front ++ back) rest))
    (IsPermutation-sym (front ++ x ∷ back) (x ∷ (front ++ back)) (IsPermutation-middle front x back)) in
    subst (λ (l : List SegmentId). IsPermutation (x ∷ xs) l) (sym place.2) order
