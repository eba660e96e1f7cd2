-- A shelf after the first n bytes of chunk i of class e were copied over those of chunk i' of class f.
use Rattle.std.proofs.Common.{◌≡◌, ℕ, ◌^◌, ◌<◌, ◌≤◌, true, Some, None, Bool, List, get_or, take, sym, ap, subst, ◌∙◌, arith, MatchOption}
use Rattle.std.specs.FinMap.{get}
use Rattle.std.proofs.lemmas.List.{get_or_default}
use Rattle.dym_base.specs.Numbers.{number}
use Rattle.dym_base.specs.HeapStep.{splice}
use Rattle.dym_base.specs.Origins.{Origin}
use Rattle.dym_base.specs.declared.command.Version.{Version}
use Rattle.dym_region.specs.declared.segment.SegmentId.{SegmentId}
use Rattle.dym_heap.specs.Chunks.{ChunkMeaning}
use Rattle.dym_heap.specs.Shelves.{ShelfMeaning, IsValidShelf, with_put, FitsIn}
use Rattle.dym_heap.specs.SizedAreas.{SizedAreaMeaning, IsCopiedOver, area_with_chunk}
use Rattle.dym_heap.specs.Arrangement.{shelf_of}
use Rattle.dym_heap.proofs.Chunks.{some_of}
use Rattle.dym_heap.proofs.Arranged.{apart}
use Rattle.dym_heap.proofs.ShelfCalls as calls
use Rattle.dym_heap.proofs.ShelfCalls.{Finds, stands_e, match_some}
use Rattle.dym_heap.proofs.ShelfParts.{IsShelfOf}

module _ {v : Version} {quota : ℕ} {ids : List SegmentId} {origin : Origin} {starts : List ℕ} {sized_areas : List SizedAreaMeaning} {full : List (List Bool)} {room spare spare_room : ℕ}
    {s : ShelfMeaning} (view : shelf_of v quota ids origin starts sized_areas ≡ s) (is : IsShelfOf v quota ids starts sized_areas full room spare spare_room)
    {e : ℕ} (low : 5 ≤ e) (high : e ≤ 16) (i : ℕ) (small : i < 2 ^ 32) {f : ℕ} (low' : 5 ≤ f) (high' : f ≤ 16) (i' : ℕ) (small' : i' < 2 ^ 32) where
  -- the areas are not the same
  pub other_place : {o j k o' j' k' : ℕ} → (e ≡ f → ⊥) → Finds view is low high i small o j k → Finds view is low' high' i' small' o' j' k' → k ≡ k' → ⊥
  other_place {o} {o' = o'} other finds finds' same =
      let a = stands_e view is low high i small finds in
      let b = stands_e view is low' high' i' small' finds' in
      let one = (apart is.arranged o o' (omega arith) (omega arith) a.within b.within (sym a.at ∙ same ∙ b.at)).0 in
      other (omega (arith, one, low, low'))

  pub record Now (new : List SizedAreaMeaning) (n : ℕ) : Type 0 where
    pub shelf : IsShelfOf v quota ids starts new full room spare spare_room
    pub gives : MatchOption (get s.state.live (number e i)) ⊥ (λ source. MatchOption (get s.state.live (number f i')) ⊥ (λ old. shelf_of v quota ids origin starts new ≡ with_put s (number f i') (Some (splice 0 (take n source) old)) true))
    pub valid_shelf : IsValidShelf (shelf_of v quota ids origin starts new)

  pub copied : {new : List SizedAreaMeaning} {o j k o' j' k' n : ℕ} → Finds view is low high i small o j k
      → Finds view is low' high' i' small' o' j' k' → FitsIn (get s.state.live (number e i)) n → IsCopiedOver sized_areas new k j k' j' n → Now new n
  copied {new} {j = j} {k = k} {j' = j'} {k' = k'} {n = n} finds finds' fits over =
      let sized_area = over.sized_area in
      let q : SizedAreaMeaning = get_or sized_areas k' sized_area in
      let here : q ≡ get_or sized_areas k' q = get_or_default sized_areas k' sized_area q (calls.in_e view is low' high' i' small' finds') in
      let source = some_of (get s.state.live (number e i)) (calls.some_fits (get s.state.live (number e i)) n fits) in
      let bytes : List ℕ = source.0 in
      let there : get_or (get_or sized_areas k sized_area).chunks j None ≡ Some bytes =
      sym (ap (λ (c : ChunkMeaning). c.bytes) (calls.chunk_s view is (stands_e view is low high i small finds) (calls.number_e view is low high i small finds) sized_area)) ∙ source.1 in
      let step : MatchOption (get_or q.chunks j' None) ⊥ (λ old. sized_area ≡ area_with_chunk q j' (Some (splice 0 (take n bytes) old)) true) =
      subst (λ z. MatchOption z ⊥ (λ x. MatchOption (get_or q.chunks j' None) ⊥ (λ old. sized_area ≡ area_with_chunk q j' (Some (splice 0 (take n x) old)) true))) there over.chunk in
      let now = calls.written view is low' high' i' small' finds' here (splice 0 (take n bytes)) step over.valid in
      record {
        shelf = subst (λ l. IsShelfOf v quota ids starts l full room spare spare_room) (sym over.areas) now.shelf;
        gives = match_some bytes _ source.1 (subst (λ l. MatchOption (get s.state.live (number f i')) ⊥ (λ old. shelf_of v quota ids origin starts l ≡ with_put s (number f i') (Some (splice 0 (take n bytes) old)) true)) (sym over.areas) now.gives);
        valid_shelf = subst (λ l. IsValidShelf (shelf_of v quota ids origin starts l)) (sym over.areas) now.valid_shelf;
      }
