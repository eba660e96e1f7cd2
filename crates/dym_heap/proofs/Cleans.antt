-- A shelf of which no chunk is touched any more.
use Rattle.std.proofs.Common.{◌≡◌, ℕ, suc, ◌<◌, inl, inr, Bool, false, List, [], ◌∷◌, length, get_or, map, replicate, refl, sym, ◌∙◌, arith}
use Rattle.std.proofs.lemmas.Bool.{cases_lt, true≢false}
use Rattle.std.proofs.lemmas.List.{length-replicate, ext_get_or, get_or_past, get_or-replicate}
use Rattle.dym_base.specs.Origins.{Origin}
use Rattle.dym_base.specs.declared.command.Version.{Version}
use Rattle.dym_region.specs.declared.segment.SegmentId.{SegmentId}
use Rattle.std.specs.Ordering.{nat_cmp}
use Rattle.std.specs.FinSet as set_of
use Rattle.std.specs.FinSet.{contains-empty}
use Rattle.dym_heap.specs.Shelves.{ShelfMeaning}
use Rattle.dym_heap.specs.Arrangement.{shelf_of}
use Rattle.dym_heap.specs.SizedAreas.{SizedAreaMeaning, clean}
use Rattle.dym_heap.proofs.NewMarks as marks
use Rattle.dym_heap.proofs.NewMarks.{MakesMarks}
use Rattle.dym_heap.proofs.ShelfParts.{IsShelfOf}

no_mark : (n i : ℕ) → get_or (replicate n false) i false ≡ false
no_mark n i =
    elim (cases_lt i n) as (λ _. get_or (replicate n false) i false ≡ false) [
      | inl l ↦ get_or-replicate n i false false l
      | inr past ↦ get_or_past (replicate n false) i false (omega (arith, length-replicate {A = Bool} n false))
    ]

makes_none : MakesMarks (λ (p : SizedAreaMeaning). replicate (length p.touched) false)
makes_none = record {
  long = λ p same. length-replicate {A = Bool} (length p.touched) false ∙ same;
  used = λ p i h. absurd (true≢false (sym h ∙ no_mark (length p.touched) i));
}

-- ---- a place of which nothing is touched is as it would be cleared

pub settled_place : (p : SizedAreaMeaning) → ((i : ℕ) → get_or p.touched i false ≡ false) → clean p ≡ p
settled_place p none =
    let same : replicate (length p.touched) false ≡ p.touched =
    ext_get_or false (replicate (length p.touched) false) p.touched (length-replicate {A = Bool} (length p.touched) false) (λ i l. no_mark (length p.touched) i ∙ sym (none i)) in
    λ j. record p { touched = same j }

-- all of them
pub settled_places : (sized_areas : List SizedAreaMeaning) → ((k : ℕ) (d : SizedAreaMeaning) → k < length sized_areas → clean (get_or sized_areas k d) ≡ get_or sized_areas k d) → map clean sized_areas ≡ sized_areas
settled_places [] each = refl
settled_places (p ∷ ps) each =
    let first : clean p ≡ p = each 0 p (omega arith) in
    let others : map clean ps ≡ ps = settled_places ps (λ k d l. each (suc k) d (omega (arith, l))) in
    λ j. first j ∷ others j

-- ---- the shelf

module _ {v : Version} {quota : ℕ} {ids : List SegmentId} {origin : Origin} {starts : List ℕ} {sized_areas sized_areas' : List SizedAreaMeaning} {full : List (List Bool)} {room spare spare_room : ℕ}
    {s : ShelfMeaning} (view : shelf_of v quota ids origin starts sized_areas ≡ s) (is : IsShelfOf v quota ids starts sized_areas full room spare spare_room) (items : sized_areas' ≡ map clean sized_areas) where
  pub clean_view : shelf_of v quota ids origin starts sized_areas' ≡ record s { state = record { live = s.state.live; touched = set_of.empty {R = nat_cmp} } }
  clean_view =
      marks.view_of makes_none is view items (record { live = s.state.live; touched = set_of.empty {R = nat_cmp} }) (λ q. refl)
      (λ p j q e. no_mark (length p.touched) j ∙ sym (contains-empty nat_cmp q)) (λ q e. contains-empty nat_cmp q)

  pub cleaned_shelf : {room' : ℕ} → room' ≡ room → IsShelfOf v quota ids starts sized_areas' full room' spare spare_room
  cleaned_shelf same = marks.kept_shelf makes_none is items same
