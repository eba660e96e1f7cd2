-- The segments of a region of which some are out.
use Rattle.std.proofs.Common.{◌≡◌, ℕ, zero, suc, ◌+◌, ◌<◌, List, [], ◌∷◌, ◌++◌, length, get_or, set, map, drop, Option, None, Some, refl, sym, ap, subst, ◌∙◌, arith, length-append, ◌≤◌, inl, inr, ext_get_or}
use Rattle.std.proofs.lemmas.Bool.{cases_lt, cases_eq}
use Rattle.std.proofs.lemmas.List.{get_or-map, get_or_past, get_or_append_left, get_or_push, get_or-set_same, get_or-set_other, length_push, length-map}
use Rattle.std.specs.Prelude.{unwrap_or}
use Rattle.dym_region.specs.Identity.{ids_of}
use Rattle.dym_region.specs.declared.segment.SegmentId.{SegmentId}
use Rattle.dym_quota.specs.HeldIds.{IsHeld, GivesBack}
use Rattle.dym_quota.specs.Bound.{missing, present}

abbrev pub at : ℕ → ℕ → SegmentId
at region n = record { region = region; number = n }

one_on : (region from k : ℕ) → at region (from + 1 + k) ≡ at region (from + suc k)
one_on region from k = ap (at region) (let e : from + 1 + k ≡ from + suc k = omega arith in e)

heads : (x y : SegmentId) (xs ys : List SegmentId) → x ∷ xs ≡ y ∷ ys → y ≡ x
heads x y xs ys e = ap (λ (zs : List SegmentId). get_or zs 0 x) (sym e)

tails : (x y : SegmentId) (xs ys : List SegmentId) → x ∷ xs ≡ y ∷ ys → xs ≡ ys
tails x y xs ys e = ap (drop 1) e

module _ {X : Type 0} (region : ℕ) where
  -- `id` is missing from the first slots beside what is missing from the second
  abbrev GoesOut : ℕ → List (Option X) → List (Option X) → SegmentId → Type 0
  GoesOut from xs ys id = GivesBack (missing region from xs) (missing region from ys) id

  more : (from : ℕ) (y : Option X) (xs ys : List (Option X)) (id : SegmentId)
      → GoesOut (from + 1) ys xs id → GoesOut from (y ∷ ys) (y ∷ xs) id
  more from None xs ys id back = record { front = at region from ∷ back.front; back = back.back; was = ap (λ zs. at region from ∷ zs) back.was; is = ap (λ zs. at region from ∷ zs) back.is }
  more from (Some y) xs ys id back = back

  first_out : (from : ℕ) (xs : List (Option X)) (x : X) → GoesOut from (None ∷ xs) (Some x ∷ xs) (at region (from + 0))
  first_out from xs x = record { front = []; back = missing region (from + 1) xs; was = ap (λ n. at region n ∷ missing region (from + 1) xs) (omega arith); is = refl }

  -- a segment that stands at its place goes out
  pub goes_out : (from : ℕ) (xs : List (Option X)) (k : ℕ) (x : X) → get_or xs k None ≡ Some x → GoesOut from (set xs k None) xs (at region (from + k))
  goes_out from [] k x is = absurd cc
  goes_out from (y ∷ xs) zero x is =
      elim y as (λ y. y ≡ Some x → GoesOut from (None ∷ xs) (y ∷ xs) (at region (from + 0))) [
        | None ↦ λ e. absurd cc
        | Some z ↦ λ e. first_out from xs z
      ] is
  goes_out from (y ∷ xs) (suc k) x is = subst (GoesOut from (y ∷ set xs k None) (y ∷ xs)) (one_on region from k) (more from y xs (set xs k None) _ (goes_out (from + 1) xs k x is))

  -- and comes back
  pub comes_back : (from : ℕ) (xs : List (Option X)) (k : ℕ) (x : X) → k < length xs → get_or xs k None ≡ None → GoesOut from xs (set xs k (Some x)) (at region (from + k))
  comes_back from [] k x l is = absurd (omega arith)
  comes_back from (y ∷ xs) zero x l is =
      elim y as (λ y. y ≡ None → GoesOut from (y ∷ xs) (Some x ∷ xs) (at region (from + 0))) [
        | None ↦ λ e. first_out from xs x
        | Some z ↦ λ e. absurd cc
      ] is
  comes_back from (y ∷ xs) (suc k) x l is = subst (GoesOut from (y ∷ xs) (y ∷ set xs k (Some x))) (one_on region from k) (more from y (set xs k (Some x)) xs _ (comes_back (from + 1) xs k x (omega arith) is))

  -- a segment is out whose place is empty
  pub empty_held : (from : ℕ) (xs : List (Option X)) (k : ℕ) → k < length xs → get_or xs k None ≡ None → IsHeld (missing region from xs) (at region (from + k))
  empty_held from [] k l is = absurd (omega arith)
  empty_held from (y ∷ xs) zero l is =
      elim y as (λ y. y ≡ None → IsHeld (missing region from (y ∷ xs)) (at region (from + 0))) [
        | None ↦ λ e. record { front = []; back = missing region (from + 1) xs; is = ap (λ n. at region n ∷ missing region (from + 1) xs) (omega arith) }
        | Some z ↦ λ e. absurd cc
      ] is
  empty_held from (y ∷ xs) (suc k) l is =
      let rest : IsHeld (missing region (from + 1) xs) (at region (from + suc k)) = subst (IsHeld (missing region (from + 1) xs)) (one_on region from k) (empty_held (from + 1) xs k (omega arith) is) in
      elim y as (λ y. IsHeld (missing region from (y ∷ xs)) (at region (from + suc k))) [
        | None ↦ record { front = at region from ∷ rest.front; back = rest.back; is = ap (λ zs. at region from ∷ zs) rest.is }
        | Some z ↦ rest
      ]

  -- where a segment is out its place is empty
  pub record IsEmptyAt (from : ℕ) (xs : List (Option X)) (id : SegmentId) : Type 0 where
    pub place : ℕ
    pub within : place < length xs
    pub empty : get_or xs place None ≡ None
    pub region_is : id.region ≡ region
    pub number_is : id.number ≡ from + place

  next : (from : ℕ) (y : Option X) (xs : List (Option X)) (id : SegmentId) → IsEmptyAt (from + 1) xs id → IsEmptyAt from (y ∷ xs) id
  next from y xs id e = record { place = suc e.place; within = (let w = e.within in omega arith); empty = e.empty; region_is = e.region_is; number_is = (let n = e.number_is in omega arith) }

  pub held_empty : (from : ℕ) (xs : List (Option X)) (front back : List SegmentId) (id : SegmentId) → missing region from xs ≡ front ++ id ∷ back → IsEmptyAt from xs id
  held_empty from [] front back id is = absurd (let n = ap length is in omega (arith, length-append front (id ∷ back)))
  held_empty from (Some x ∷ xs) front back id is = next from (Some x) xs id (held_empty (from + 1) xs front back id is)
  held_empty from (None ∷ xs) [] back id is =
      let e : id ≡ at region from = heads (at region from) id (missing region (from + 1) xs) back is in
      record { place = 0; within = omega arith; empty = refl; region_is = ap (λ (z : SegmentId). z.region) e; number_is = ap (λ (z : SegmentId). z.number) e ∙ omega arith }
  held_empty from (None ∷ xs) (f ∷ front) back id is = next from None xs id (held_empty (from + 1) xs front back id (tails (at region from) f (missing region (from + 1) xs) (front ++ id ∷ back) is))

  -- no segment is out where each stands at its place
  pub none_missing : (from : ℕ) (xs : List X) → missing region from (map Some xs) ≡ []
  none_missing from [] = refl
  none_missing from (x ∷ xs) = none_missing (from + 1) xs

  -- all are there where none is out
  pub all_present : (from : ℕ) (xs : List (Option X)) → missing region from xs ≡ [] → map Some (present xs) ≡ xs
  all_present from [] none = refl
  all_present from (None ∷ xs) none = absurd cc
  all_present from (Some y ∷ xs) none = ap (λ zs. Some y ∷ zs) (all_present (from + 1) xs none)

module _ {X : Type 0} where
  -- those that are there, of one slot more
  pub present_some : (xs : List (Option X)) (x : X) → present (xs ++ Some x ∷ []) ≡ present xs ++ x ∷ []
  present_some [] x = refl
  present_some (None ∷ xs) x = present_some xs x
  present_some (Some y ∷ xs) x = ap (λ zs. y ∷ zs) (present_some xs x)

  pub present_none : (xs : List (Option X)) → present (xs ++ None ∷ []) ≡ present xs
  present_none [] = refl
  present_none (None ∷ xs) = present_none xs
  present_none (Some y ∷ xs) = ap (λ zs. y ∷ zs) (present_none xs)

  pub length-present : (xs : List (Option X)) → length (present xs) ≤ length xs
  length-present [] = omega arith
  length-present (None ∷ xs) = let l = length-present xs in omega arith
  length-present (Some y ∷ xs) = let l = length-present xs in omega arith

-- one less is out
pub fewer_by_one : (old new : List SegmentId) (id : SegmentId) → GivesBack old new id → length new + 1 ≡ length old
fewer_by_one old new id back =
    let a = ap length back.was in let b = ap length back.is in
    omega (arith, length-append back.front (id ∷ back.back), length-append back.front back.back)

-- ---- each stands at its number

abbrev Has : {X : Type 0} → (X → SegmentId) → ℕ → List (Option X) → ℕ → Type 0
Has {X} id region xs i = (x : X) → get_or xs i None ≡ Some x → ((id x).region ≡ region) × ((id x).number ≡ i)

length-ids_of : (region n : ℕ) → length (ids_of region n) ≡ n
length-ids_of region zero = refl
length-ids_of region (suc n) = length_push (ids_of region n) (at region n) ∙ (let m = length-ids_of region n in omega arith)

ids_at : (region n i : ℕ) (d : SegmentId) → i < n → get_or (ids_of region n) i d ≡ at region i
ids_at region zero i d l = absurd (omega arith)
ids_at region (suc n) i d l =
    elim (cases_lt i n) as (λ _. get_or (ids_of region n ++ at region n ∷ []) i d ≡ at region i) [
      | inl less ↦ get_or_append_left (ids_of region n) (at region n ∷ []) d i (let m = length-ids_of region n in omega arith) ∙ ids_at region n i d less
      | inr past ↦ (let e : i ≡ n = omega arith in get_or_push (ids_of region n) (at region n) d i (length-ids_of region n ∙ sym e) ∙ ap (at region) (sym e))
    ]

module _ {X : Type 0} (id : X → SegmentId) (region : ℕ) where
  pub all_numbered : (n : ℕ) (xs : List X) → map id xs ≡ ids_of region n → (i : ℕ) → Has id region (map Some xs) i
  all_numbered n xs are i x there =
      elim (cases_lt i (length xs)) as (λ _. ((id x).region ≡ region) × ((id x).number ≡ i)) [
        | inl l ↦ (
            let same : get_or xs i x ≡ x = ap (λ o. unwrap_or o x) (sym (get_or-map Some xs i x None l) ∙ there) in
            let m = ap length are ∙ length-ids_of region n in
            let k = length-map xs id in
            let is : id x ≡ at region i = ap id (sym same) ∙ sym (get_or-map id xs i x (id x) l) ∙ ap (λ zs. get_or zs i (id x)) are ∙ ids_at region n i (id x) (omega arith) in
            (ap (λ (z : SegmentId). z.region) is, ap (λ (z : SegmentId). z.number) is))
        | inr past ↦ absurd (let e = sym (get_or_past (map Some xs) i None (let k = length-map xs Some in omega arith)) ∙ there in cc)
      ]

  -- so their identities are those of the region, in the order of their numbers
  pub ids_present : (n : ℕ) (xs : List X) → length xs ≡ n → ((i : ℕ) → Has id region (map Some xs) i) → map id xs ≡ ids_of region n
  ids_present n xs long are =
      ext_get_or (at region 0) (map id xs) (ids_of region n) (length-map xs id ∙ long ∙ sym (length-ids_of region n)) (λ i l.
      let inside : i < length xs = omega (arith, l, length-map xs id) in
      let here : (x : X) → get_or (map id xs) i (at region 0) ≡ id (get_or xs i x) = λ x. get_or-map id xs i x (at region 0) inside in
      let has : (x : X) → ((id (get_or xs i x)).region ≡ region) × ((id (get_or xs i x)).number ≡ i) = λ x. are i (get_or xs i x) (get_or-map Some xs i x None inside) in
      let is : (x : X) → id (get_or xs i x) ≡ at region i = λ x j. record { region = (has x).0 j; number = (has x).1 j } in
      elim xs as (λ zs. zs ≡ xs → get_or (map id xs) i (at region 0) ≡ get_or (ids_of region n) i (at region 0)) [
        | [] ↦ λ e. absurd (omega (arith, inside, ap length e))
        | x ∷ _ ↦ λ e. here x ∙ is x ∙ sym (ids_at region n i (at region 0) (omega (arith, inside, long)))
      ] refl)

  -- one place is empty now, or one segment stands where it belongs
  pub numbered_without : (xs : List (Option X)) (k : ℕ) → k < length xs → ((i : ℕ) → Has id region xs i) → (i : ℕ) → Has id region (set xs k None) i
  numbered_without xs k l are i x there =
      elim (cases_eq i k) as (λ _. ((id x).region ≡ region) × ((id x).number ≡ i)) [
        | inl same ↦ absurd (let e = sym (get_or-set_same xs k None None l) ∙ ap (λ j. get_or (set xs k None) j None) (sym same) ∙ there in cc)
        | inr other ↦ are i x (sym (get_or-set_other xs k i None None other) ∙ there)
      ]

  pub numbered_with : (xs : List (Option X)) (k : ℕ) (y : X) → k < length xs → (id y).region ≡ region → (id y).number ≡ k → ((i : ℕ) → Has id region xs i) → (i : ℕ) → Has id region (set xs k (Some y)) i
  numbered_with xs k y l r n are i x there =
      elim (cases_eq i k) as (λ _. ((id x).region ≡ region) × ((id x).number ≡ i)) [
        | inl same ↦ (
            let e : y ≡ x = ap (λ o. unwrap_or o y) (sym (get_or-set_same xs k (Some y) None l) ∙ ap (λ j. get_or (set xs k (Some y)) j None) (sym same) ∙ there) in
            (ap (λ z. (id z).region) (sym e) ∙ r, ap (λ z. (id z).number) (sym e) ∙ n ∙ sym same))
        | inr other ↦ are i x (sym (get_or-set_other xs k i (Some y) None other) ∙ there)
      ]
