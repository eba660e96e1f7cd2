-- A shelf whose chunks get other marks, and nothing else: those of each area are made of the area.
use Rattle.std.proofs.Common.{◌≡◌, ℕ, ◌+◌, ◌%◌, ◌<◌, Bool, true, false, IsSome, None, List, [], ◌∷◌, length, get_or, map, refl, sym, ap, subst, ◌∙◌, arith}
use Rattle.std.specs.Prelude.{IsPermutation}
use Rattle.std.specs.FinMap.{get}
use Rattle.std.specs.FinSet.{contains}
use Rattle.std.proofs.lemmas.List.{get_or-map, length-map}
use Rattle.dym_base.specs.Numbers.{per, exponent_of, index_of}
use Rattle.dym_base.specs.Heaps.{HeapState}
use Rattle.dym_base.specs.Origins.{Origin}
use Rattle.dym_base.specs.declared.command.Version.{Version}
use Rattle.dym_region.specs.declared.segment.SegmentId.{SegmentId}
use Rattle.dym_heap.specs.Chunks.{ChunkMeaning, heap_chunk, no_chunk}
use Rattle.dym_heap.specs.Fetches.{area_chunk}
use Rattle.dym_heap.specs.Shelves.{ShelfMeaning}
use Rattle.dym_heap.specs.SizedAreas.{SizedAreaMeaning}
use Rattle.dym_heap.specs.Arrangement.{IsPlaced, IsMarked, HasTables, shelf_of, place_of_number, no_area, chunk_among, heap_among}
use Rattle.dym_heap.proofs.Chunks.{same_heap}
use Rattle.dym_heap.proofs.Starts.{class_end, lies, heap_is, among_in, stands_in}
use Rattle.dym_heap.proofs.Starts.Lies.{outside, inside}
use Rattle.dym_heap.proofs.ShelfParts.{IsShelfOf}

-- as many marks as chunks, and only chunks in use are marked
pub record MakesMarks (f : SizedAreaMeaning → List Bool) : Type 0 where
  pub long : (p : SizedAreaMeaning) → length p.touched ≡ length p.chunks → length (f p) ≡ length p.chunks
  pub used : (p : SizedAreaMeaning) (i : ℕ) → get_or (f p) i false ≡ true → IsSome (get_or p.chunks i None)

module _ {f : SizedAreaMeaning → List Bool} (makes : MakesMarks f) where
  abbrev pub area : SizedAreaMeaning → SizedAreaMeaning
  area p = record p { touched = f p }

  same_ids : (ps : List SizedAreaMeaning) → map (λ (p : SizedAreaMeaning). p.identity) (map area ps) ≡ map (λ (p : SizedAreaMeaning). p.identity) ps
  same_ids [] = refl
  same_ids (p ∷ ps) = ap (λ ids. p.identity ∷ ids) (same_ids ps)

  module _ {v : Version} {quota : ℕ} {ids : List SegmentId} {starts : List ℕ} {sized_areas : List SizedAreaMeaning} {full : List (List Bool)} {room spare spare_room : ℕ} (is : IsShelfOf v quota ids starts sized_areas full room spare spare_room) where
    shelf : IsShelfOf v quota ids starts (map area sized_areas) full room spare spare_room
    shelf =
        let arr = is.arranged in
        let at : (c o : ℕ) (d : SizedAreaMeaning) → c < 12 → get_or starts c 0 + o < get_or starts (c + 1) 0 → (get_or (map area sized_areas) (get_or starts c 0 + o) d ≡ area (get_or sized_areas (get_or starts c 0 + o) d)) =
        λ c o d l w. let top = class_end arr l in get_or-map area sized_areas (get_or starts c 0 + o) d d (omega arith) in
        record {
          arranged = record {
            starts_len = arr.starts_len;
            first = arr.first;
            rising = arr.rising;
            last = arr.last ∙ sym (length-map sized_areas area);
            placed = λ c o d l w.
                let p = arr.placed c o d l w in
                let a = p.sized_area in
                subst (IsPlaced v (c + 5) o) (sym (at c o d l w)) (record {
                  sized_area = record { least = a.least; most = a.most; whole = a.whole; marks = makes.long _ a.marks; sized = a.sized; touched_used = makes.used _ };
                  version = p.version;
                  exponent = p.exponent;
                  ordinal = p.ordinal;
                });
            full_len = arr.full_len;
            bits_len = arr.bits_len;
            marked = λ c o d l w. let m = arr.marked c o d l w in subst (IsMarked _) (sym (at c o d l w)) (record { full = m.full; free = m.free });
            mark_within = arr.mark_within;
          };
          supplied = record {
            least = is.supplied.least;
            most = is.supplied.most;
            within = (let w = is.supplied.within in let n = length-map sized_areas area in omega arith);
            has_room = is.supplied.has_room;
            tables = subst (λ n. HasTables v quota n spare spare_room) (sym (length-map sized_areas area)) is.supplied.tables;
            owned = subst (IsPermutation ids) (sym (same_ids sized_areas)) is.supplied.owned;
          };
        }

    pub kept_shelf : {sized_areas' : List SizedAreaMeaning} {room' : ℕ} → sized_areas' ≡ map area sized_areas → room' ≡ room → IsShelfOf v quota ids starts sized_areas' full room' spare spare_room
    kept_shelf {room' = room'} items same =
        subst (λ ps. IsShelfOf v quota ids starts ps full room' spare spare_room) (sym items) (subst (λ r. IsShelfOf v quota ids starts (map area sized_areas) full r spare spare_room) (sym same) shelf)

    -- a heap with the same bytes, of which those chunks are touched that are marked
    heap_is_t : (t : HeapState) → ((q : ℕ) → get t.live q ≡ get (heap_among starts sized_areas).live q)
        → ((p : SizedAreaMeaning) (j q : ℕ) → heap_chunk (heap_among starts sized_areas) q ≡ area_chunk p j → get_or (f p) j false ≡ contains t.touched q)
        → ((q : ℕ) → heap_chunk (heap_among starts sized_areas) q ≡ no_chunk → contains t.touched q ≡ false) → heap_among starts (map area sized_areas) ≡ t
    heap_is_t t bytes marked none =
        same_heap (heap_among starts (map area sized_areas)) t (λ q.
        let long = is.arranged.starts_len in
        let was = heap_is starts sized_areas q long in
        heap_is starts (map area sized_areas) q long
        ∙ elim (lies starts q long) as (λ _. chunk_among starts (map area sized_areas) q ≡ heap_chunk t q) [
          | outside _ gone ↦
              let old : heap_chunk (heap_among starts sized_areas) q ≡ no_chunk = was ∙ gone sized_areas in
              gone (map area sized_areas) ∙ (λ i. record { bytes = sym (bytes q ∙ ap (λ (c : ChunkMeaning). c.bytes) old) i; touched = sym (none q old) i })
          | inside at ↦
              let k : ℕ = place_of_number starts q in
              let j : ℕ = index_of q % per (exponent_of q) in
              let p : SizedAreaMeaning = get_or sized_areas k no_area in
              let old : heap_chunk (heap_among starts sized_areas) q ≡ area_chunk p j = was ∙ among_in q sized_areas at in
              among_in q (map area sized_areas) at ∙ ap (λ (x : SizedAreaMeaning). area_chunk x j) (get_or-map area sized_areas k no_area no_area (stands_in is.arranged at))
              ∙ (λ i. record { bytes = sym (bytes q ∙ ap (λ (c : ChunkMeaning). c.bytes) old) i; touched = marked p j q old i })
        ])

    pub view_of : {origin : Origin} {s : ShelfMeaning} {sized_areas' : List SizedAreaMeaning} → shelf_of v quota ids origin starts sized_areas ≡ s → sized_areas' ≡ map area sized_areas → (t : HeapState) → ((q : ℕ) → get t.live q ≡ get s.state.live q)
        → ((p : SizedAreaMeaning) (j q : ℕ) → heap_chunk s.state q ≡ area_chunk p j → get_or (f p) j false ≡ contains t.touched q)
        → ((q : ℕ) → heap_chunk s.state q ≡ no_chunk → contains t.touched q ≡ false) → shelf_of v quota ids origin starts sized_areas' ≡ record s { state = t }
    view_of {origin} view items t bytes marked none =
        let state = ap (λ (x : ShelfMeaning). x.state) view in
        ap (shelf_of v quota ids origin starts) items
        ∙ ap (λ st. record (shelf_of v quota ids origin starts sized_areas) { state = st }) (heap_is_t t (λ q. bytes q ∙ ap (λ (h : HeapState). get h.live q) (sym state)) (λ p j q e. marked p j q (ap (λ h. heap_chunk h q) (sym state) ∙ e))
        (λ q e. none q (ap (λ h. heap_chunk h q) (sym state) ∙ e)))
        ∙ ap (λ (x : ShelfMeaning). record x { state = t }) view
