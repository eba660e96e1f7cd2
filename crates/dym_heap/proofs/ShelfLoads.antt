-- A shelf after one of its areas was loaded, fetched, marked or shaped.
use Rattle.std.proofs.Common.{◌≡◌, ℕ, ◌+◌, ◌-◌, ◌/◌, ◌<◌, ◌≤◌, ◌↔◌, max, Bool, false, IsTrue, is_some, None, List, get_or, set, sym, ap, subst, ◌∙◌, arith}
use Rattle.dym_base.specs.Numbers.{per}
use Rattle.dym_base.specs.Origins.{Origin}
use Rattle.dym_base.specs.declared.command.Version.{Version}
use Rattle.dym_bits.specs.Bits.{bit_in}
use Rattle.dym_region.specs.declared.segment.SegmentId.{SegmentId}
use Rattle.dym_heap.specs.Bodies.{IsBodyOf, IsBody, IsLoadedSizedArea, loaded_chunk}
use Rattle.dym_heap.specs.Chunks.{ChunkMeaning}
use Rattle.dym_heap.specs.Fetches.{area_chunk, marked, fetched, packed_at, IsReshaped}
use Rattle.dym_heap.specs.Shelves.{ShelfMeaning}
use Rattle.dym_heap.specs.SizedAreas.{SizedAreaMeaning, IsSizedArea}
use Rattle.dym_heap.specs.Arrangement.{IsFullArea, shelf_of}
use Rattle.dym_heap.proofs.Arranged.{Remarks, marks_with, marked_by, remarks_with}
use Rattle.dym_heap.proofs.PlaceLoads.{loaded_some}
use Rattle.dym_heap.proofs.Starts.{Stands}
use Rattle.dym_heap.proofs.ShelfCalls as calls
use Rattle.dym_heap.proofs.ShelfCalls.{Changed, changed, marks_stay, placed_q}
use Rattle.dym_heap.proofs.Wants.{fetched_some}
use Rattle.dym_heap.proofs.ShelfParts.{IsShelfOf}

module _ {v : Version} {quota : ℕ} {ids : List SegmentId} {origin : Origin} {starts : List ℕ} {sized_areas : List SizedAreaMeaning} {full : List (List Bool)} {room spare spare_room : ℕ}
    {s : ShelfMeaning} (view : shelf_of v quota ids origin starts sized_areas ≡ s) (is : IsShelfOf v quota ids starts sized_areas full room spare spare_room) {e : ℕ} (low : 5 ≤ e) (high : e ≤ 16)
    {k o : ℕ} (same : k ≡ e - 5) (l : o < get_or starts (k + 1) 0 - get_or starts k 0) {q : SizedAreaMeaning} (here : q ≡ get_or sized_areas (get_or starts k 0 + o) q) where
  abbrev st : Stands starts e o (get_or starts k 0 + o)
  st = calls.stands_a view is low high same l

  exponent_q : q.exponent ≡ e
  exponent_q = (placed_q view is st here).exponent

  body_q : {bits : List Bool} {body : List ℕ} {f : ℕ → List ℕ} → IsBodyOf s.version e bits body f → IsBodyOf q.version q.exponent bits body f
  body_q {bits} {body} {f} b =
      subst (λ w. IsBodyOf w q.exponent bits body f) (sym ((placed_q view is st here).version ∙ ap (λ (t : ShelfMeaning). t.version) view)) (subst (λ x. IsBodyOf s.version x bits body f) (sym exponent_q) b)

  pub has_q : {bits : List Bool} {body : List ℕ} → IsBody s.version e bits body → IsBody q.version q.exponent bits body
  has_q {bits} {body} has = (has.0, body_q has.1)

  pub len_q : (n : ℕ) → n ≡ max 1 (per e / 8) → n ≡ max 1 (per q.exponent / 8)
  len_q n is_n = is_n ∙ ap (λ x. max 1 (per x / 8)) (sym exponent_q)

  pub below_q : (i : ℕ) → i < per e → i < per q.exponent
  below_q i b = let x = ap per exponent_q in omega arith

  module _ {p : SizedAreaMeaning} (valid : IsSizedArea p) where
    pub loaded_shelf : {bits : List Bool} {body : List ℕ} → ((f : ℕ → List ℕ) → IsBodyOf q.version q.exponent bits body f → IsLoadedSizedArea q p bits f) → (f : ℕ → List ℕ) → IsBodyOf s.version e bits body f
        → Changed view is e o (set sized_areas (get_or starts k 0 + o) p) full (λ i old new. new ≡ loaded_chunk bits f i old)
    loaded_shelf {bits} loads f body_is =
        let done = loads f (body_q body_is) in
        let same_place = done.same ∙ (λ j. record q { chunks = p.chunks; touched = sym (ap (λ (x : SizedAreaMeaning). x.touched) done.same) j }) in
        changed view is st here valid same_place (marks_stay view is st here valid same_place (λ i. ap is_some (done.chunk i) ∙ loaded_some (bit_in bits i) (f i) (get_or q.chunks i None)))
        (λ i old new. new ≡ loaded_chunk bits f i old) (λ i j. record { bytes = done.chunk i j; touched = ap (λ (x : SizedAreaMeaning). get_or x.touched i false) done.same j })

    pub fetched_shelf : {bits : List Bool} {body : List ℕ} → p ≡ record q { chunks = p.chunks; touched = p.touched } → IsBody s.version e bits body
        → ((f : ℕ → List ℕ) → IsBodyOf q.version q.exponent bits body f → (i : ℕ) → area_chunk p i ≡ fetched (packed_at bits f i) (area_chunk q i))
        → (f : ℕ → List ℕ) → IsBodyOf s.version e bits body f → Changed view is e o (set sized_areas (get_or starts k 0 + o) p) full (λ i old new. new ≡ fetched (packed_at bits f i) old)
    fetched_shelf {bits} same_place has fetches f body_is =
        changed view is st here valid same_place
        (marks_stay view is st here valid same_place (λ i. ap (λ (x : ChunkMeaning). is_some x.bytes) (fetches has.0 (body_q has.1) i)
        ∙ fetched_some (packed_at bits has.0 i) (area_chunk q i) ((placed_q view is st here).sized_area.touched_used i)))
        (λ i old new. new ≡ fetched (packed_at bits f i) old) (fetches f (body_q body_is))

    pub marked_shelf : p ≡ record q { touched = p.touched } → (bits : List Bool) → ((i : ℕ) → area_chunk p i ≡ marked (bit_in bits i) (area_chunk q i))
        → Changed view is e o (set sized_areas (get_or starts k 0 + o) p) full (λ i old new. new ≡ marked (bit_in bits i) old)
    marked_shelf kept bits each =
        let same_place = kept ∙ (λ j. record q { chunks = sym (ap (λ (x : SizedAreaMeaning). x.chunks) kept) j; touched = p.touched }) in
        changed view is st here valid same_place (marks_stay view is st here valid same_place (λ i. ap (λ (x : ChunkMeaning). is_some x.bytes) (each i))) (λ i old new. new ≡ marked (bit_in bits i) old) each

    -- the area got these use bits, and its mark with them
    pub shaped : (is_set : ℕ → Bool) → p ≡ record q { chunks = p.chunks; touched = p.touched } → ((i : ℕ) → IsReshaped (is_set i) (area_chunk q i) (area_chunk p i)) → (b : Bool) → (IsTrue b ↔ IsFullArea p)
        → {full' : List (List Bool)} → full' ≡ marks_with full k o b → Changed view is e o (set sized_areas (get_or starts k 0 + o) p) full' (λ i old new. IsReshaped (is_set i) old new)
    shaped is_set same_place each b filled after =
        changed view is st here valid same_place
        (subst (λ f. Remarks full f (e - 5) o p) (sym (after ∙ ap (λ x. marks_with full x o b) same)) (remarks_with is.arranged (e - 5) o p b (omega arith) (let f = calls.few_o view is st in omega arith) (marked_by filled)))
        (λ i old new. IsReshaped (is_set i) old new) each
