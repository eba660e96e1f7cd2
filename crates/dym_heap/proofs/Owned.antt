-- The segments of the areas are those that are held.
use Rattle.std.proofs.Common.{◌≡◌, ℕ, suc, ◌+◌, ◌-◌, ◌<◌, ◌≤◌, ◌⊎◌, inl, inr, Bool, true, false, cond, ◌&&◌, ◌==◌, List, [], ◌∷◌, ◌++◌, length, get_or, set, take, drop, refl, sym, ap, subst, ◌∙◌, arith, length-set, drop-cons, sum_by}
use Rattle.std.specs.Prelude.{map, IsPermutation}
use Rattle.std.specs.List.{insert, remove, Contains}
use Rattle.std.proofs.Math.Seq.{map-set_same, get_or-append_seam}
use Rattle.std.proofs.lemmas.Bool.{eq-eqb, eqb-true}
use Rattle.std.proofs.lemmas.List.{get_or_default, get_or-map, length-map, length_push, map-set, nil_from_length, take-append-drop}
use Rattle.std.proofs.lemmas.List.Edits.{length-insert, length-remove}
use Rattle.std.proofs.lemmas.List.Elements.{Contains-append_right}
use Rattle.std.proofs.lemmas.List.Sorted.{IsPermutation-refl, IsPermutation-sym, IsPermutation-trans, IsPermutation-cons, IsPermutation-middle, IsPermutation-insert, IsPermutation-remove, IsPermutation-to_front, IsPermutation-map, Contains-permutation, length_permutation, sum_by-IsPermutation}
use Rattle.std.proofs.lemmas.List.Sums.{sum_by-cons, sum_by-append, sum_by-set}
use Rattle.dym_base.specs.declared.command.Version.{Version}
use Rattle.dym_base.specs.declared.command.Version.TheVariants.{One, Two}
use Rattle.dym_region.specs.declared.segment.SegmentId.{SegmentId}
use Rattle.dym_quota.specs.HeldIds.{IsHeld, GivesBack}
use Rattle.dym_heap.specs.SizedAreas.{SizedAreaMeaning}
use Rattle.dym_heap.specs.Arrangement.{IsSupplied, HasTables, Owns}

abbrev identity : SizedAreaMeaning → SegmentId
identity p = p.identity

-- ---- an identity that weighs something is there

abbrev same_id : SegmentId → SegmentId → Bool
same_id x y = (x.region == y.region) && (x.number == y.number)

same_id-true : (x y : SegmentId) → same_id x y ≡ true → x ≡ y
same_id-true x y h =
    elim (x.region == y.region) as (λ b. x.region == y.region ≡ b → (b && (x.number == y.number)) ≡ true → x ≡ y) [
      | true ↦ λ a b. (let r = eqb-true x.region y.region a in let n = eqb-true x.number y.number b in λ i. record { region = r i; number = n i })
      | false ↦ λ a b. absurd cc
    ] refl h

abbrev weight_of : SegmentId → SegmentId → ℕ
weight_of x y = cond (same_id x y) 1 0

weight-self : (x : SegmentId) → weight_of x x ≡ 1
weight-self x = ap (λ b. cond b 1 0) (ap (λ b. b && (x.number == x.number)) (eq-eqb x.region x.region refl) ∙ eq-eqb x.number x.number refl)

held_by_weight : (x : SegmentId) (ids : List SegmentId) → 0 < sum_by (weight_of x) ids → IsHeld ids x
held_by_weight x [] some = absurd (omega arith)
held_by_weight x (y ∷ ids) some =
    elim (same_id x y) as (λ b. same_id x y ≡ b → IsHeld (y ∷ ids) x) [
      | true ↦ λ h. record { front = []; back = ids; is = ap (λ z. z ∷ ids) (sym (same_id-true x y h)) }
      | false ↦ λ h.
          let none : weight_of x y ≡ 0 = ap (λ b. cond b 1 0) h in
          let rest = held_by_weight x ids (omega (arith, sum_by-cons (weight_of x) y ids)) in
          record { front = y ∷ rest.front; back = rest.back; is = ap (λ zs. y ∷ zs) rest.is }
    ] refl

-- lists of identities are in one another's order where they weigh the same, whatever each identity weighs
same_weights : (ids others : List SegmentId) → ((weight : SegmentId → ℕ) → sum_by weight ids ≡ sum_by weight others) → IsPermutation ids others
same_weights [] [] same = IsPermutation-refl []
same_weights [] (y ∷ others) same = absurd (omega (arith, same (λ x. 1), sum_by-cons (λ x. 1) y others))
same_weights (x ∷ ids) others same =
    let at = held_by_weight x others (omega (arith, weight-self x, same (weight_of x), sum_by-cons (weight_of x) x ids)) in
    let rest = same_weights ids (at.front ++ at.back) (λ weight.
    let all = same weight ∙ ap (sum_by weight) at.is ∙ sum_by-append weight at.front (x ∷ at.back) in
    omega (arith, all, sum_by-cons weight x ids, sum_by-cons weight x at.back, sum_by-append weight at.front at.back)) in
    subst (IsPermutation (x ∷ ids)) (sym at.is)
    (IsPermutation-trans _ _ _ (IsPermutation-cons x _ _ rest) (IsPermutation-sym _ _ (IsPermutation-middle at.front x at.back)))

-- where a segment goes and its area with it, those that are left are owned
rest_owned : {ids ids' : List SegmentId} (left : List SizedAreaMeaning) {x : SegmentId} → IsPermutation ids (x ∷ map identity left) → GivesBack ids ids' x → Owns ids' left
rest_owned {ids} {ids'} left {x} owns back = same_weights ids' (map identity left) (λ weight.
    let all = sum_by-IsPermutation weight ids (x ∷ map identity left) owns in
    let was = ap (sum_by weight) back.was ∙ sum_by-append weight back.front (x ∷ back.back) in
    let now = ap (sum_by weight) back.is ∙ sum_by-append weight back.front back.back in
    omega (arith, all, was, now, sum_by-cons weight x (map identity left), sum_by-cons weight x back.back))

-- ---- the segment of an area is held, and a segment that is held is that of an area

pub area_held : {ids : List SegmentId} (sized_areas : List SizedAreaMeaning) (k : ℕ) (d : SizedAreaMeaning) → Owns ids sized_areas → k < length sized_areas → IsHeld ids (get_or sized_areas k d).identity
area_held {ids} sized_areas k d owns l =
    let x : SegmentId = (get_or sized_areas k d).identity in
    let at = Contains-permutation _ _ x (IsPermutation-sym _ _ owns) (k, omega (arith, l, length-map sized_areas identity), get_or-map identity sized_areas k d x l) in
    record {
      front = take at.0 ids;
      back = drop (suc at.0) ids;
      is = sym (take-append-drop at.0 ids) ∙ ap (λ ys. take at.0 ids ++ ys) (drop-cons ids at.0 x at.1 ∙ ap (λ y. y ∷ drop (suc at.0) ids) at.2);
    }

pub held_area : (x : SegmentId) (ids : List SegmentId) (sized_areas : List SizedAreaMeaning) → Owns ids sized_areas → IsHeld ids x
    → (k : ℕ) × (k < length sized_areas) × ((d : SizedAreaMeaning) → (get_or sized_areas k d).identity ≡ x)
held_area x ids sized_areas owns held =
    let there = Contains-append_right held.front (x ∷ held.back) x (0, omega arith, refl) in
    let at = Contains-permutation ids _ x owns (subst (λ ys. Contains ys x) (sym held.is) there) in
    let l : at.0 < length sized_areas = omega (arith, at.1, length-map sized_areas identity) in
    (at.0, l, λ d. sym (get_or-map identity sized_areas at.0 d x l) ∙ at.2)

-- where one area changed and the same segments are owned, that area has its segment
pub same_identity : (ids : List SegmentId) (sized_areas : List SizedAreaMeaning) (k : ℕ) (d p : SizedAreaMeaning) → Owns ids sized_areas → Owns ids (set sized_areas k p) → k < length sized_areas
    → p.identity ≡ (get_or sized_areas k d).identity
same_identity ids sized_areas k d p before after l =
    let x : SegmentId = (get_or sized_areas k d).identity in
    let set_at = subst (IsPermutation ids) (map-set identity sized_areas k p) after in
    let same : (weight : SegmentId → ℕ) → weight p.identity ≡ weight x = λ weight.
    let was = sum_by-IsPermutation weight ids (map identity sized_areas) before in
    let now = sum_by-IsPermutation weight ids (set (map identity sized_areas) k p.identity) set_at in
    let changed = sum_by-set weight (map identity sized_areas) k p.identity x (omega (arith, l, length-map sized_areas identity)) in
    let there = ap weight (get_or-map identity sized_areas k d x l) in
    omega (arith, was, now, changed, there) in
    let region = same (λ y. y.region) in
    let number = same (λ y. y.number) in
    λ i. record { region = region i; number = number i }

-- ---- an area changes, comes or goes

pub supplied-put : {v : Version} {quota : ℕ} {ids : List SegmentId} {sized_areas : List SizedAreaMeaning} {room spare spare_room : ℕ} (k : ℕ) (d p : SizedAreaMeaning) → IsSupplied v quota ids sized_areas room spare spare_room → k < length sized_areas
    → p.identity ≡ (get_or sized_areas k d).identity → IsSupplied v quota ids (set sized_areas k p) room spare spare_room
supplied-put {v} {quota} {ids} {sized_areas} {spare} {spare_room} k d p is l same = record {
  least = is.least;
  most = is.most;
  within = (let w = is.within in omega (arith, length-set sized_areas k p));
  has_room = is.has_room;
  tables = subst (λ n. HasTables v quota n spare spare_room) (sym (length-set sized_areas k p)) is.tables;
  owned = subst (IsPermutation ids) (sym (map-set_same identity sized_areas k p d same)) is.owned;
}

-- the tables left after one was taken where there are any
pub fewer_tables : (v : Version) (quota areas spare spare' room : ℕ) → HasTables v quota areas spare room → areas < quota → spare' ≡ spare - 1 → HasTables v quota (areas + 1) spare' room
fewer_tables One quota areas spare spare' room has less is = omega arith
fewer_tables Two quota areas spare spare' room has less is = let a = has.0 in (omega arith, has.1)

-- the version and whether there is a table to take
pub table_there : (v : Version) (quota areas spare room : ℕ) → HasTables v quota areas spare room → areas < quota → ((v ≡ One) × (spare ≡ 0)) ⊎ ((v ≡ Two) × (0 < spare))
table_there One quota areas spare room has less = inl (refl, has)
table_there Two quota areas spare room has less = let a = has.0 in inr (refl, omega arith)

pub supplied-insert : {v : Version} {quota : ℕ} {ids ids' : List SegmentId} {sized_areas : List SizedAreaMeaning} {room : ℕ} (room' : ℕ) {spare spare' spare_room : ℕ} (at : ℕ) (p : SizedAreaMeaning)
    → IsSupplied v quota ids sized_areas room spare spare_room → length sized_areas < quota → at ≤ length sized_areas → GivesBack ids' ids p.identity → room ≤ room' → spare' ≡ spare - 1
    → IsSupplied v quota ids' (insert sized_areas at p) room' spare' spare_room
supplied-insert {v} {quota} {ids} {ids'} {sized_areas} room' {spare} {spare'} {spare_room} at p is less fits more bigger fewer = record {
  least = is.least;
  most = is.most;
  within = omega (arith, length-insert sized_areas at p fits);
  has_room = (let r = is.has_room in omega arith);
  tables = subst (λ n. HasTables v quota n spare' spare_room) (sym (length-insert sized_areas at p fits)) (fewer_tables v quota (length sized_areas) spare spare' spare_room is.tables less fewer);
  owned = IsPermutation-trans _ _ _ (subst (λ xs. IsPermutation xs (p.identity ∷ ids)) (sym more.was) (subst (λ xs. IsPermutation (more.front ++ p.identity ∷ more.back) (p.identity ∷ xs)) (sym more.is) (IsPermutation-middle more.front p.identity more.back)))
      (IsPermutation-trans _ _ _ (IsPermutation-cons p.identity _ _ is.owned) (IsPermutation-map identity _ _ (IsPermutation-insert sized_areas at p)));
}

pub supplied-remove : {v : Version} {quota : ℕ} {ids ids' : List SegmentId} {sized_areas : List SizedAreaMeaning} {room spare : ℕ} (spare' : ℕ) {spare_room : ℕ} (spare_room' k : ℕ) (d : SizedAreaMeaning)
    → IsSupplied v quota ids sized_areas room spare spare_room → k < length sized_areas → GivesBack ids ids' (get_or sized_areas k d).identity → HasTables v quota (length (remove sized_areas k)) spare' spare_room'
    → IsSupplied v quota ids' (remove sized_areas k) room spare' spare_room'
supplied-remove {ids} {ids'} {sized_areas} spare' spare_room' k d is l back tables = record {
  least = is.least;
  most = is.most;
  within = (let w = is.within in omega (arith, length-remove sized_areas k l));
  has_room = is.has_room;
  tables = tables;
  owned = (let p : SizedAreaMeaning = get_or sized_areas k d in
      rest_owned _ (IsPermutation-trans _ _ _ is.owned (IsPermutation-map identity _ _ (IsPermutation-remove sized_areas k p l (get_or_default sized_areas k d p l)))) back);
}

-- ---- giving all areas back

pub left_owned : (ids ids' : List SegmentId) (sized_areas sized_areas' : List SizedAreaMeaning) (p : SizedAreaMeaning)
    → Owns ids sized_areas → sized_areas ≡ sized_areas' ++ p ∷ [] → GivesBack ids ids' p.identity → Owns ids' sized_areas'
left_owned ids ids' sized_areas sized_areas' p owns is back =
    rest_owned _ (IsPermutation-trans _ _ _ (subst (Owns ids) is owns) (IsPermutation-map identity _ _ (IsPermutation-to_front sized_areas' p))) back

pub last_owned : (ids : List SegmentId) (sized_areas sized_areas' : List SizedAreaMeaning) (p : SizedAreaMeaning) → Owns ids sized_areas → sized_areas ≡ sized_areas' ++ p ∷ [] → IsHeld ids p.identity
last_owned ids sized_areas sized_areas' p owns is =
    subst (λ (q : SizedAreaMeaning). IsHeld ids q.identity) (get_or-append_seam sized_areas' p [] p)
    (area_held (sized_areas' ++ p ∷ []) (length sized_areas') p (subst (Owns ids) is owns) (omega (arith, length_push sized_areas' p)))

pub as_many : {ids : List SegmentId} (sized_areas : List SizedAreaMeaning) → Owns ids sized_areas → length ids ≡ length sized_areas
as_many {ids} sized_areas owns = sym (length_permutation _ _ owns) ∙ length-map sized_areas identity

pub owns_none : (ids : List SegmentId) (sized_areas : List SizedAreaMeaning) → Owns ids sized_areas → length sized_areas ≡ 0 → ids ≡ []
owns_none ids sized_areas owns none = nil_from_length ids (as_many sized_areas owns ∙ none)
