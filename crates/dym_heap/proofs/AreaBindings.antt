-- Each area stays over the segment that it is bound to, whatever changes in the areas, comes or goes.
use Rattle.std.proofs.Common.{◌≡◌, ℕ, ◌+◌, ◌-◌, ◌<◌, ◌≤◌, inl, inr, Bool, List, [], ◌∷◌, length, get_or, set, map, None, Some, refl, sym, ap, subst, ◌∙◌, arith, length-set}
use Rattle.std.specs.List.{insert, remove}
use Rattle.std.proofs.lemmas.Bool.{cases_lt, cases_eq}
use Rattle.std.proofs.lemmas.List.{get_or-set_same, get_or-set_other, get_or-map, length-map}
use Rattle.std.proofs.lemmas.List.Edits.{length-insert, length-remove, get_or-insert_below, get_or-insert_at, get_or-insert_above, get_or-remove_below, get_or-remove_above}
use Rattle.dym_base.specs.declared.command.Version.{Version}
use Rattle.dym_region.specs.declared.segment.SegmentId.{SegmentId}
use Rattle.dym_quota.specs.Bound.{Binding, IsBoundTo, IsFreeFor, AreApart}
use Rattle.dym_heap.specs.SizedAreas.{SizedAreaMeaning, clean, used_touched}
use Rattle.dym_heap.specs.Arrangement.{AreBound, IsPlaced}
use Rattle.dym_heap.proofs.Starts.{class_end, placed_at, in_class}
use Rattle.dym_heap.proofs.Owned.{held_area, same_identity}
use Rattle.dym_heap.proofs.ShelfParts.{IsShelfOf}

-- an area at its place in its class, over the segment of that place
abbrev pub BoundArea : Binding → SizedAreaMeaning → Type 0
BoundArea binding p = IsBoundTo binding (p.exponent - 5) p.ordinal p.identity

-- two areas with one class, ordinal and segment
abbrev Alike : SizedAreaMeaning → SizedAreaMeaning → Type 0
Alike p q = (p.exponent ≡ q.exponent) × (p.ordinal ≡ q.ordinal) × (p.identity ≡ q.identity)

alike_bound : (binding : Binding) (p q : SizedAreaMeaning) → Alike p q → BoundArea binding q → BoundArea binding p
alike_bound None p q same bound = tt
alike_bound (Some f) p q same bound = same.2 ∙ bound ∙ (λ j. f (sym same.0 j - 5) (sym same.1 j))

pub bound_none : (binding : Binding) (sized_areas : List SizedAreaMeaning) → sized_areas ≡ [] → AreBound binding sized_areas
bound_none binding sized_areas none k d l = absurd (omega (arith, l, ap length none))

-- a shelf with another area in the place of one: both stand at one place of one class, and own one segment
module _ {v : Version} {quota quota' : ℕ} {ids : List SegmentId} {starts : List ℕ} {sized_areas : List SizedAreaMeaning} {full full' : List (List Bool)} {room spare spare_room room' spare' spare_room' : ℕ} (k : ℕ) (p : SizedAreaMeaning) where
  alike_at : IsShelfOf v quota ids starts sized_areas full room spare spare_room → IsShelfOf v quota' ids starts (set sized_areas k p) full' room' spare' spare_room' → k < length sized_areas
      → (d : SizedAreaMeaning) → Alike p (get_or sized_areas k d)
  alike_at before after inside d =
      let at = in_class before.arranged k inside in
      let was = placed_at before.arranged at.stands d in
      let now = subst (IsPlaced v at.e at.o) (get_or-set_same sized_areas k p d inside) (placed_at after.arranged at.stands d) in
      (now.exponent ∙ sym was.exponent, now.ordinal ∙ sym was.ordinal, same_identity ids sized_areas k d p before.supplied.owned after.supplied.owned inside)

  pub bound_kept : (binding : Binding) → IsShelfOf v quota ids starts sized_areas full room spare spare_room × AreBound binding sized_areas → IsShelfOf v quota' ids starts (set sized_areas k p) full' room' spare' spare_room'
      → IsShelfOf v quota' ids starts (set sized_areas k p) full' room' spare' spare_room' × AreBound binding (set sized_areas k p)
  bound_kept binding before after = (
    after,
    λ i d l.
        let inside : i < length sized_areas = omega (arith, l, length-set sized_areas k p) in
        elim (cases_eq i k) as (λ _. BoundArea binding (get_or (set sized_areas k p) i d)) [
          | inl same ↦
              let here : k < length sized_areas = omega (arith, same, inside) in
              subst (λ n. BoundArea binding (get_or (set sized_areas k p) n d)) (sym same)
              (subst (BoundArea binding) (sym (get_or-set_same sized_areas k p d here)) (alike_bound binding p (get_or sized_areas k d) (alike_at before.0 after here d) (before.1 k d here)))
          | inr other ↦ subst (BoundArea binding) (sym (get_or-set_other sized_areas k i p d other)) (before.1 i d inside)
        ],
  )

  pub bound_kept_at : (binding : Binding) {sized_areas' : List SizedAreaMeaning} → sized_areas' ≡ set sized_areas k p → IsShelfOf v quota ids starts sized_areas full room spare spare_room × AreBound binding sized_areas → IsShelfOf v quota' ids starts sized_areas' full' room' spare' spare_room'
      → IsShelfOf v quota' ids starts sized_areas' full' room' spare' spare_room' × AreBound binding sized_areas'
  bound_kept_at binding items before after =
      (after, subst (AreBound binding) (sym items) (bound_kept binding before (subst (λ xs. IsShelfOf v quota' ids starts xs full' room' spare' spare_room') items after)).1)

-- areas that change and keep their class, ordinal and segment
bound_mapped : (f : SizedAreaMeaning → SizedAreaMeaning) → ((p : SizedAreaMeaning) → Alike (f p) p) → (binding : Binding) (sized_areas sized_areas' : List SizedAreaMeaning) → sized_areas' ≡ map f sized_areas
    → AreBound binding sized_areas → AreBound binding sized_areas'
bound_mapped f alike binding sized_areas sized_areas' items bound k d l =
    let inside : k < length sized_areas = omega (arith, l, ap length items, length-map sized_areas f) in
    let at : get_or sized_areas' k d ≡ f (get_or sized_areas k d) = ap (λ xs. get_or xs k d) items ∙ get_or-map f sized_areas k d d inside in
    subst (BoundArea binding) (sym at) (alike_bound binding (f (get_or sized_areas k d)) (get_or sized_areas k d) (alike (get_or sized_areas k d)) (bound k d inside))

pub bound_clean : (binding : Binding) (sized_areas sized_areas' : List SizedAreaMeaning) → sized_areas' ≡ map clean sized_areas → AreBound binding sized_areas → AreBound binding sized_areas'
bound_clean = bound_mapped clean (λ p. (refl, refl, refl))

pub bound_touched : (binding : Binding) (sized_areas sized_areas' : List SizedAreaMeaning) → sized_areas' ≡ map used_touched sized_areas → AreBound binding sized_areas → AreBound binding sized_areas'
bound_touched = bound_mapped used_touched (λ p. (refl, refl, refl))

-- ---- an area comes or goes

pub bound_insert : (binding : Binding) (sized_areas : List SizedAreaMeaning) (at : ℕ) (p : SizedAreaMeaning) → at ≤ length sized_areas → BoundArea binding p → AreBound binding sized_areas → AreBound binding (insert sized_areas at p)
bound_insert binding sized_areas at p fits is bound k d l =
    let long = length-insert sized_areas at p fits in
    elim (cases_lt k at) as (λ _. BoundArea binding (get_or (insert sized_areas at p) k d)) [
      | inl low ↦ subst (BoundArea binding) (sym (get_or-insert_below sized_areas at p d k low fits)) (bound k d (omega arith))
      | inr high ↦
          elim (cases_eq k at) as (λ _. BoundArea binding (get_or (insert sized_areas at p) k d)) [
            | inl same ↦ subst (BoundArea binding) (sym (ap (λ n. get_or (insert sized_areas at p) n d) same ∙ get_or-insert_at sized_areas at p d fits)) is
            | inr other ↦ (
                let next : k ≡ (k - 1) + 1 = (let ne = other in omega arith) in
                subst (BoundArea binding) (sym (ap (λ n. get_or (insert sized_areas at p) n d) next ∙ get_or-insert_above sized_areas at p d (k - 1) (omega arith) fits)) (bound (k - 1) d (omega arith)))
          ]
    ]

pub bound_remove : (binding : Binding) (sized_areas : List SizedAreaMeaning) (at : ℕ) → at < length sized_areas → AreBound binding sized_areas → AreBound binding (remove sized_areas at)
bound_remove binding sized_areas at inside bound k d l =
    let long = length-remove sized_areas at inside in
    elim (cases_lt k at) as (λ _. BoundArea binding (get_or (remove sized_areas at) k d)) [
      | inl low ↦ subst (BoundArea binding) (sym (get_or-remove_below sized_areas at d k low inside)) (bound k d (omega arith))
      | inr high ↦ subst (BoundArea binding) (sym (get_or-remove_above sized_areas at d k high inside)) (bound (k + 1) d (omega arith))
    ]

-- a new area is over the segment that was asked for it
pub bound_made : (binding : Binding) (p : SizedAreaMeaning) {class e o : ℕ} {id : SegmentId} → class ≡ e - 5 → p.exponent ≡ e → p.ordinal ≡ o → p.identity ≡ id → IsBoundTo binding class o id → BoundArea binding p
bound_made None p class_is exponent ordinal identity is = tt
bound_made (Some f) p class_is exponent ordinal identity is = identity ∙ is ∙ (λ j. f ((class_is ∙ ap (λ n. n - 5) (sym exponent)) j) (sym ordinal j))

pub bound_inserted : {binding binding' : Binding} (sized_areas : List SizedAreaMeaning) {sized_areas' : List SizedAreaMeaning} (at : ℕ) (p : SizedAreaMeaning) → sized_areas' ≡ insert sized_areas at p → at ≤ length sized_areas → BoundArea binding p
    → binding' ≡ binding → AreBound binding sized_areas → AreBound binding' sized_areas'
bound_inserted {binding} sized_areas {sized_areas'} at p items fits is same bound =
    subst (λ b. AreBound b sized_areas') (sym same) (subst (AreBound binding) (sym items) (bound_insert binding sized_areas at p fits is bound))

pub bound_removed : {binding binding' : Binding} (sized_areas : List SizedAreaMeaning) {sized_areas' : List SizedAreaMeaning} (at : ℕ) → sized_areas' ≡ remove sized_areas at → at < length sized_areas
    → binding' ≡ binding → AreBound binding sized_areas → AreBound binding' sized_areas'
bound_removed {binding} sized_areas {sized_areas'} at items inside same bound =
    subst (λ b. AreBound b sized_areas') (sym same) (subst (AreBound binding) (sym items) (bound_remove binding sized_areas at inside bound))

-- the segment of the next area of a class isn't held
pub next_free : (binding : Binding) {v : Version} {quota : ℕ} {ids : List SegmentId} {starts : List ℕ} {sized_areas : List SizedAreaMeaning} {full : List (List Bool)} {room spare spare_room : ℕ} (c : ℕ)
    → AreApart binding quota → IsShelfOf v quota ids starts sized_areas full room spare spare_room → AreBound binding sized_areas → c < 12 → length sized_areas < quota
    → IsFreeFor binding ids c (get_or starts (c + 1) 0 - get_or starts c 0)
next_free None c apart is bound small less = tt
next_free (Some f) {v} {quota} {ids} {starts} {sized_areas} {full} c apart is bound small less = λ held.
    let n : ℕ = get_or starts (c + 1) 0 - get_or starts c 0 in
    let found = held_area (f c n) ids sized_areas is.supplied.owned held in
    let k : ℕ = found.0 in
    let at = in_class is.arranged k found.1 in
    elim sized_areas as (λ xs. xs ≡ sized_areas → ⊥) [
      | [] ↦ λ e. omega (arith, found.1, ap length e)
      | d ∷ _ ↦ λ e.
          let was = placed_at is.arranged at.stands d in
          let here : (get_or sized_areas k d).identity ≡ f (at.e - 5) at.o = bound k d found.1 ∙ ap (λ x. f (x - 5) (get_or sized_areas k d).ordinal) was.exponent ∙ ap (f (at.e - 5)) was.ordinal in
          let within = at.stands.within in
          let rising = is.arranged.rising c small in
          let low : at.o < quota = (let i = found.1 in let e = at.stands.at in omega arith) in
          let top = class_end is.arranged small in
          let one = apart (at.e - 5) at.o c n low (omega arith) (sym here ∙ found.2 d) in
          let end = ap (λ x. get_or starts (x + 1) 0) one.0 in
          let start = ap (λ x. get_or starts x 0) one.0 in
          let o = one.1 in
          omega arith
    ] refl
