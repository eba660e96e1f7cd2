-- A shelf of which each chunk in use is touched.
use Rattle.std.proofs.Common.{◌≡◌, ℕ, ◌||◌, inl, inr, Bool, true, false, is_some, Option, None, List, length, get_or, map, refl, sym, ap, ◌∙◌, arith}
use Rattle.std.specs.Ordering.{nat_cmp}
use Rattle.std.specs.Cmp.{nat_cmp_total}
use Rattle.std.specs.FinMap.{get, keys, contains_key-keys}
use Rattle.std.specs.FinSet.{contains, from_list, contains-from_list}
use Rattle.std.proofs.lemmas.Bool.{cases_lt}
use Rattle.std.proofs.lemmas.List.{length-map, ext_get_or, get_or-map, get_or_past}
use Rattle.dym_base.specs.Origins.{Origin}
use Rattle.dym_base.specs.Heaps.{Live}
use Rattle.dym_base.specs.declared.command.Version.{Version}
use Rattle.dym_region.specs.declared.segment.SegmentId.{SegmentId}
use Rattle.dym_bits.specs.Bits.{bit_in, IsSet}
use Rattle.dym_area.specs.Area.{AreaMeaning, IsValidArea}
use Rattle.dym_heap.specs.Chunks.{ChunkMeaning}
use Rattle.dym_heap.specs.Shelves.{ShelfMeaning}
use Rattle.dym_heap.specs.Arrangement.{shelf_of}
use Rattle.dym_heap.specs.SizedAreas.{SizedAreaMeaning, place_of, touched_in, IsMeasured, used_touched}
use Rattle.dym_heap.specs.Touches.{all_touched}
use Rattle.dym_heap.proofs.PlaceSteps.{is_place, chunk_of, some_used}
use Rattle.dym_heap.proofs.PlaceShapes as shapes
use Rattle.dym_heap.proofs.NewMarks as marks
use Rattle.dym_heap.proofs.NewMarks.{MakesMarks}
use Rattle.dym_heap.proofs.ShelfParts.{IsShelfOf}

used_mark : (chunks : List (Option (List ℕ))) (i : ℕ) → get_or (map is_some chunks) i false ≡ is_some (get_or chunks i None)
used_mark chunks i =
    elim (cases_lt i (length chunks)) as (λ _. get_or (map is_some chunks) i false ≡ is_some (get_or chunks i None)) [
      | inl l ↦ get_or-map is_some chunks i None false l
      | inr past ↦ get_or_past (map is_some chunks) i false (omega (arith, length-map chunks is_some)) ∙ sym (ap is_some (get_or_past chunks i None past))
    ]

makes_used : MakesMarks (λ (p : SizedAreaMeaning). map is_some p.chunks)
makes_used = record { long = λ p same. length-map p.chunks is_some; used = λ p i h. sym (used_mark p.chunks i) ∙ h }

-- ---- a place whose use bits become its dirty bits

-- the dirty chunks are in use
dirty_too : (dirty used : Bool) → (dirty ≡ true → used ≡ true) → (dirty || used) ≡ used
dirty_too true used within = sym (within refl)
dirty_too false used within = refl

module _ {area : AreaMeaning} {ls : Option (List ℕ)} {p : SizedAreaMeaning} (v : place_of area ls ≡ p) (m : IsMeasured area ls) (bits : List Bool)
    (bits_is : (i : ℕ) → bit_in bits i ≡ (bit_in area.dirty i || bit_in area.used i)) where
  is_used : (i : ℕ) → bit_in bits i ≡ bit_in area.used i
  is_used i = bits_is i ∙ dirty_too (bit_in area.dirty i) (bit_in area.used i) (m.valid.dirty_used i)

  pub within_used : (i : ℕ) → IsSet bits i → IsSet area.used i
  within_used i h = sym (is_used i) ∙ h

  module _ {area' : AreaMeaning} (after : area' ≡ record area { dirty = bits }) (valid' : IsValidArea area') where
    measured : IsMeasured area' ls
    measured = shapes.touched_measured v m bits after valid'

    mark : (i : ℕ) → get_or (touched_in area') i false ≡ is_some (get_or p.chunks i None)
    mark i =
        shapes.touched_marks v m bits after valid' i ∙ is_used i
        ∙ sym (sym (ap (λ (q : SizedAreaMeaning). is_some (get_or q.chunks i None)) v) ∙ ap is_some (chunk_of ls i m.valid) ∙ some_used area ls i)

    same_chunks : (place_of area' ls).chunks ≡ p.chunks
    same_chunks = ap (λ (q : SizedAreaMeaning). q.chunks) (shapes.touched_same v m bits after valid')

    marks_now : touched_in area' ≡ map is_some p.chunks
    marks_now =
        ext_get_or false (touched_in area') (map is_some p.chunks)
        ((is_place measured).marks ∙ ap (λ cs. length cs) same_chunks ∙ sym (length-map p.chunks is_some))
        (λ i l. mark i ∙ sym (used_mark p.chunks i))

    pub used_touched_p : place_of area' ls ≡ used_touched p
    used_touched_p = shapes.touched_same v m bits after valid' ∙ (λ j. record p { touched = marks_now j })

-- ---- the shelf

-- a set of all keys has a number where the map does
contains-keys : (live : Live) (q : ℕ) → contains (from_list {R = nat_cmp} (keys live)) q ≡ is_some (get live q)
contains-keys live q = contains-from_list nat_cmp_total (keys live) q ∙ sym (contains_key-keys live q)

module _ {v : Version} {quota : ℕ} {ids : List SegmentId} {origin : Origin} {starts : List ℕ} {sized_areas sized_areas' : List SizedAreaMeaning} {full : List (List Bool)} {room spare spare_room : ℕ}
    {s : ShelfMeaning} (view : shelf_of v quota ids origin starts sized_areas ≡ s) (is : IsShelfOf v quota ids starts sized_areas full room spare spare_room) (items : sized_areas' ≡ map used_touched sized_areas) where
  pub touched_view : shelf_of v quota ids origin starts sized_areas' ≡ record s { state = all_touched s.state }
  touched_view =
      marks.view_of makes_used is view items (all_touched s.state) (λ q. refl)
      (λ p j q e. used_mark p.chunks j ∙ sym (contains-keys s.state.live q ∙ ap (λ (c : ChunkMeaning). is_some c.bytes) e)) (λ q e. contains-keys s.state.live q ∙ ap (λ (c : ChunkMeaning). is_some c.bytes) e)

  pub touched_shelf : {room' : ℕ} → room' ≡ room → IsShelfOf v quota ids starts sized_areas' full room' spare spare_room
  touched_shelf same = marks.kept_shelf makes_used is items same
