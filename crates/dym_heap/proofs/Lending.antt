-- The areas of the map that a shelf stands for are its places, in their order; what is lent of an area.
use Rattle.std.proofs.Common.{◌≡◌, ℕ, zero, suc, ◌+◌, ◌-◌, ◌*◌, ◌<◌, ◌≤◌, Bool, List, length, get_or, refl, sym, ap, subst, ◌∙◌, arith, add-zero}
use Rattle.std.specs.List.{flat_map, range_with_len}
use Rattle.std.proofs.lemmas.List.{get_or_append_left, get_or-append_right}
use Rattle.dym_base.specs.Numbers.{per, number}
use Rattle.dym_base.specs.Heaps.{areas}
use Rattle.dym_base.specs.Origins.{Origin}
use Rattle.dym_base.specs.declared.command.Version.{Version}
use Rattle.dym_region.specs.declared.segment.SegmentId.{SegmentId}
use Rattle.dym_pack.specs.Areas.{AreaName, area_at, chunk_number}
use Rattle.dym_heap.specs.Chunks.{ChunkMeaning, heap_chunk}
use Rattle.dym_heap.specs.Fetches.{area_chunk}
use Rattle.dym_heap.specs.Shelves.{ShelfMeaning, IsTidy}
use Rattle.dym_heap.specs.SizedAreas.{SizedAreaMeaning}
use Rattle.dym_heap.specs.Arrangement.{shelf_of}
use Rattle.dym_heap.specs.AreaViews.{IsAreaOf}
use Rattle.dym_heap.proofs.AreaLists.{names, length-names, name-names, list-names}
use Rattle.dym_heap.proofs.Owned.{as_many}
use Rattle.dym_heap.proofs.Starts.{starts_upto, Stands, is_number, in_class}
use Rattle.dym_heap.proofs.ShelfCalls.{count_s, few_o, placed_q, long_q, chunk_q}
use Rattle.dym_heap.proofs.Tidy.{count_is}
use Rattle.dym_heap.proofs.ShelfParts.{IsShelfOf}

-- element o of list c among lists that follow on each other, where list i begins at f i
flat_at : (F : ℕ → List AreaName) (f : ℕ → ℕ) (a n c o k : ℕ) (d : AreaName) → c < n → o < length (F (a + c)) → ((i : ℕ) → i < n → f i + length (F (a + i)) ≡ f (i + 1)) → ((i : ℕ) → i ≤ c → f i ≤ f c) → f c + o ≡ f 0 + k
    → get_or (flat_map F (range_with_len a n)) k d ≡ get_or (F (a + c)) o d
flat_at F f a zero c o k d l within steps rising at = absurd (omega arith)
flat_at F f a (suc n) zero o k d l within steps rising at =
    let z : a + zero ≡ a = add-zero a in
    let long : length (F (a + zero)) ≡ length (F a) = ap (λ x. length (F x)) z in
    let same : k ≡ o = omega arith in
    get_or_append_left (F a) (flat_map F (range_with_len (a + 1) n)) d k (omega arith) ∙ ap (λ i. get_or (F a) i d) same ∙ ap (λ x. get_or (F x) o d) (sym z)
flat_at F f a (suc n) (suc c) o k d l within steps rising at =
    let s : a + suc c ≡ a + 1 + c = omega arith in
    let first : f 0 + length (F a) ≡ f 1 = (let z : a ≡ a + 0 = omega arith in let step = steps 0 (omega arith) in let long = ap (λ x. length (F x)) z in omega arith) in
    let up = rising 1 (omega arith) in
    get_or-append_right (F a) (flat_map F (range_with_len (a + 1) n)) (length (F a)) k d refl (omega arith)
    ∙ flat_at F (λ i. f (i + 1)) (a + 1) n c o (k - length (F a)) d (omega arith) (subst (λ x. o < length (F x)) s within)
    (λ i m. (let t : a + 1 + i ≡ a + (i + 1) = omega arith in ap (λ x. f (i + 1) + length (F x)) t) ∙ steps (i + 1) (omega arith))
    (λ i m. (let e : f (c + 1) ≡ f (suc c) = ap f (let h : c + 1 ≡ suc c = omega arith in h) in let r = rising (i + 1) (omega arith) in omega arith))
    (let e : f (c + 1) ≡ f (suc c) = ap f (let h : c + 1 ≡ suc c = omega arith in h) in omega arith)
    ∙ ap (λ x. get_or (F x) o d) (sym s)

module _ {v : Version} {quota : ℕ} {ids : List SegmentId} {origin : Origin} {starts : List ℕ} {sized_areas : List SizedAreaMeaning} {full : List (List Bool)} {room spare spare_room : ℕ}
    {s : ShelfMeaning} (view : shelf_of v quota ids origin starts sized_areas ≡ s) (is : IsShelfOf v quota ids starts sized_areas full room spare spare_room) (tidy : IsTidy s) where
  pub in_places : (k : ℕ) → k < length s.held_ids → k < length sized_areas
  in_places k l = let ids = sym (ap (λ (t : ShelfMeaning). length t.held_ids) view) ∙ as_many sized_areas is.supplied.owned in omega arith

  many : (e : ℕ) → 5 ≤ e → e ≤ 16 → length (names s.state.live e) + get_or starts (e - 5) 0 ≡ get_or starts (e - 5 + 1) 0
  many e low high = let n = length-names s.state.live e in let m = count_is tidy e (low, high) in let c = count_s view is high in let up = is.arranged.rising (e - 5) (omega arith) in omega arith

  -- area o of class e is that of its place
  name_at : {e o k : ℕ} → Stands starts e o k → area_at s.state.live k ≡ record { exponent = e; ordinal = o }
  name_at {e} {o} {k} st =
      let none : AreaName = record { exponent = 5; ordinal = 0 } in
      let low = st.least in let high = st.most in
      let class : 5 + (e - 5) ≡ e = omega arith in
      let first = is.arranged.first in let w = st.within in let at = st.at in
      let n = many e low high in
      let inside : o < areas s.state.live e = (let l = length-names s.state.live e in omega arith) in
      ap (λ xs. get_or xs k none) (list-names s.state.live)
      ∙ flat_at (names s.state.live) (λ i. get_or starts i 0) 5 12 (e - 5) o k none (omega arith) (let l = length-names s.state.live e in let m = ap (λ x. length (names s.state.live x)) class in omega arith)
      (λ i l. (let c : 5 + i - 5 ≡ i = omega arith in let m = many (5 + i) (omega arith) (omega arith) in let a = ap (λ x. get_or starts x 0) c in let b = ap (λ x. get_or starts (x + 1) 0) c in omega arith))
      (λ i l. starts_upto i (e - 5) is.arranged l (omega arith)) (omega arith)
      ∙ ap (λ x. get_or (names s.state.live x) o none) class ∙ name-names s.state.live e o none inside

  module _ {k : ℕ} (l : k < length sized_areas) {q : SizedAreaMeaning} (here : q ≡ get_or sized_areas k q) where
    pub area_is : IsAreaOf s.state.live s.state.touched k q
    area_is =
        let at = in_class is.arranged k l in
        let placed = placed_q view is at.stands here in
        let name = name_at at.stands in
        let chunk : (i : ℕ) → i < length q.chunks → heap_chunk s.state (chunk_number s.state.live k i) ≡ area_chunk q i =
        λ i m. ap (λ (a : AreaName). heap_chunk s.state (number a.exponent (a.ordinal * per a.exponent + i))) name
        ∙ chunk_q view is at.stands here (is_number at.o i at.stands.least (few_o view is at.stands) (let n = long_q view is at.stands here in omega arith)) in
        record {
          sized_area = placed.sized_area;
          exponent = placed.exponent ∙ sym (ap (λ (a : AreaName). a.exponent) name);
          ordinal = placed.ordinal ∙ sym (ap (λ (a : AreaName). a.ordinal) name);
          chunk = λ i m. sym (ap (λ (c : ChunkMeaning). c.bytes) (chunk i m));
          mark = λ i m. sym (ap (λ (c : ChunkMeaning). c.touched) (chunk i m));
        }

    pub version_is : q.version ≡ s.version
    version_is = (placed_q view is (in_class is.arranged k l).stands here).version ∙ ap (λ (t : ShelfMeaning). t.version) view
