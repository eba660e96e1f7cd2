-- The clauses of a shelf's calls by which the chunks of one area are read or changed. Here `s` is the shelf of the fields.
use Rattle.std.proofs.Common.{◌≡◌, ℕ, ◌+◌, ◌-◌, ◌*◌, ◌/◌, ◌%◌, ◌^◌, ◌<◌, ◌≤◌, ◌↔◌, inl, inr, Bool, true, false, cond, IsTrue, is_some, IsSome, Option, Some, None, List, [], length, get_or, set, replicate, refl, sym, ap, subst, ◌∙◌, arith, length-set, get_or-set_same, get_or-set_other, MatchOption}
use Rattle.std.specs.FinMap.{get}
use Rattle.std.specs.FinSet.{contains}
use Rattle.std.proofs.lemmas.Bool.{cases_eq, cases_lt, true≢false}
use Rattle.std.proofs.lemmas.List.{get_or_default}
use Rattle.std.proofs.Math.Nat.{add-mul}
use Rattle.std.proofs.lemmas.Nat.{pow_pos, div_below, mod_below, div-add-mod', row_fits}
use Rattle.dym_base.specs.Numbers.{per, number, exponent_of, index_of}
use Rattle.dym_base.specs.Heaps.{HeapState}
use Rattle.dym_base.specs.Origins.{Origin}
use Rattle.dym_base.specs.declared.command.Version.{Version}
use Rattle.dym_base.specs.declared.limits.TheConstants.{MOST_CHUNKS}
use Rattle.dym_bits.specs.Bits.{IsSet, IsFirstClear}
use Rattle.dym_region.specs.declared.segment.SegmentId.{SegmentId}
use Rattle.dym_heap.specs.Meaning.{IsSizeOf}
use Rattle.dym_heap.specs.Chunks.{ChunkMeaning, heap_chunk, no_chunk, put}
use Rattle.dym_heap.specs.Fetches.{area_chunk, IsChangedArea}
use Rattle.dym_heap.specs.Undo.{without_touch}
use Rattle.dym_heap.specs.Shelves.{ShelfMeaning, IsValidShelf, count_of, IsFirstFree, with_put, FitsIn}
use Rattle.dym_heap.specs.SizedAreas.{SizedAreaMeaning, IsSizedArea, IsFreeIn, area_with_chunk}
use Rattle.dym_heap.specs.Arrangement.{IsPlaced, IsFullArea, shelf_of, marks_of_class, place_of_number, no_area, chunk_among, heap_among}
use Rattle.dym_heap.proofs.Sizes.{per_fits}
use Rattle.dym_heap.proofs.Chunks.{put_is, forgotten_is, quiet_is}
use Rattle.dym_heap.proofs.Owned.{as_many, supplied-put}
use Rattle.dym_heap.proofs.Starts.{class_end, Stands, Inside, lies, among_in, heap_is, IsNumber, is_number, stands_in, placed_at, chunk_inside, chunk_there}
use Rattle.dym_heap.proofs.Starts.Lies.{outside, inside}
use Rattle.dym_heap.proofs.Arranged.{Remarks, marks_with, marked_by, not_both, remarks_with, remarks_taken, remarks_kept, apart, arranged-put, length-counts, count_at, sum_counts}
use Rattle.dym_heap.proofs.ShelfParts.{IsShelfOf}

pub some_fits : (o : Option (List ℕ)) (n : ℕ) → FitsIn o n → IsSome o
some_fits None n h = absurd h
some_fits (Some x) n h = refl

pub match_some : {A : Type 0} {o : Option A} (x : A) (Q : A → Type 0) → o ≡ Some x → Q x → MatchOption o ⊥ Q
match_some x Q is q = subst (λ o. MatchOption o ⊥ Q) (sym is) q

pub matched : {A : Type 0} (o : Option A) (Q : A → Type 0) → MatchOption o ⊥ Q → (x : A) × (o ≡ Some x) × Q x
matched None Q h = absurd h
matched (Some x) Q h = (x, refl, h)

-- the bits of a class, by the default that a read of them has
pub marks_read : (full : List (List Bool)) {c k : ℕ} {bits : List Bool} → k ≡ c → bits ≡ get_or full k bits → k < length full → bits ≡ marks_of_class full c
marks_read full {k} {bits} same read l = read ∙ get_or_default full k bits [] l ∙ ap (λ x. get_or full x []) same

pub marks_written : (full : List (List Bool)) {c k : ℕ} (o : ℕ) {bits bits' : List Bool} (b : Bool) → k ≡ c → bits ≡ get_or full k bits → k < length full → bits' ≡ set bits o b → set full k bits' ≡ marks_with full c o b
marks_written full {c} {k} o {bits} {bits'} b same read l is =
    ap (λ x. set full x bits') same ∙ ap (set full c) (is ∙ ap (λ x. set x o b) (marks_read full same read l))

-- a place before another is in no later area
not_above : (q o r j n : ℕ) → o ≤ q → q * n + r < o * n + j → j < n → q ≡ o
not_above q o r j n high less small =
    elim (cases_eq q o) as (λ _. q ≡ o) [
      | inl same ↦ same
      | inr ne ↦ absurd (let m = row_fits o n q n (omega arith) (omega arith) in omega arith)
    ]

-- ---- what is true of every shelf

pub is_valid : {v : Version} {quota : ℕ} {ids : List SegmentId} (origin : Origin) {starts : List ℕ} {sized_areas : List SizedAreaMeaning} {full : List (List Bool)} {room spare spare_room : ℕ}
    → IsShelfOf v quota ids starts sized_areas full room spare spare_room → IsValidShelf (shelf_of v quota ids origin starts sized_areas)
is_valid {v} {quota} {ids} origin {starts} {sized_areas} {full} {room} {spare} {spare_room} is =
    let arr = is.arranged in
    let state : HeapState = heap_among starts sized_areas in
    let chunk_none : (k : ℕ) → ((sized_areas : List SizedAreaMeaning) → chunk_among starts sized_areas k ≡ no_chunk) → (heap_chunk state k ≡ no_chunk) = λ k none. heap_is starts sized_areas k arr.starts_len ∙ none sized_areas in
    let where_is : (k : ℕ) → IsSome (get state.live k) → Inside starts k =
    λ k some. elim (lies starts k arr.starts_len) as (λ _. Inside starts k) [
      | inside at ↦ at
      | outside not_in none ↦ absurd (let gone = ap (λ (c : ChunkMeaning). is_some c.bytes) (chunk_none k none) in cc)
    ] in
    record {
      quota_least = is.supplied.least;
      quota_most = is.supplied.most;
      classes = length-counts starts;
      holds = as_many sized_areas is.supplied.owned ∙ sym (sum_counts arr);
      within = (let n = as_many sized_areas is.supplied.owned in let fits = is.supplied.within in omega arith);
      class = λ k some. let at = where_is k some in (at.least, at.most);
      in_area = λ k some. (let at = where_is k some in let n = count_at starts (exponent_of k - 5) (let m = at.most in omega arith) in let w = at.within in omega arith);
      sized = λ k bytes e.
          let at = where_is k (ap is_some e) in
          let p = placed_at arr at no_area in
          subst (λ x. IsSizeOf v x (length bytes)) p.exponent
          (subst (λ w. IsSizeOf w (get_or sized_areas (place_of_number starts k) no_area).exponent (length bytes)) p.version
          (p.sized_area.sized (index_of k % per (exponent_of k)) bytes (sym (ap (λ (c : ChunkMeaning). c.bytes) (chunk_inside arr k at no_area)) ∙ e)));
      touched_live = λ k e.
          elim (lies starts k arr.starts_len) as (λ _. IsSome (get state.live k)) [
            | outside not_in none ↦ absurd (let gone = ap (λ (c : ChunkMeaning). c.touched) (chunk_none k none) in true≢false (sym e ∙ gone))
            | inside at ↦
                let chunk = chunk_inside arr k at no_area in
                ap (λ (c : ChunkMeaning). is_some c.bytes) chunk
                ∙ (placed_at arr at no_area).sized_area.touched_used (index_of k % per (exponent_of k)) (sym (ap (λ (c : ChunkMeaning). c.touched) chunk) ∙ e)
          ];
    }

pub number_is : {e o j q : ℕ} → IsNumber e o j q → q ≡ number e (o * per e + j)
number_is {e} {o} {j} {q} n =
    let e_is = n.exponent in
    let parts = div-add-mod' (index_of q) (per e) in
    let a : index_of q / per e * per e ≡ o * per e = ap (λ x. x * per e) n.area in
    let c = n.chunk in
    omega arith

pub number_of : {e o q : ℕ} → exponent_of q ≡ e → index_of q / per e ≡ o → IsNumber e o (index_of q % per e) q
number_of {e} {o} {q} class area = record { exponent = class; area = area; chunk = refl; small = (let parts = div-add-mod' (index_of q) (per e) in let y = ap (λ z. z * per e) area in omega arith) }

module _ {v : Version} {quota : ℕ} {ids : List SegmentId} {origin : Origin} {starts : List ℕ} {sized_areas : List SizedAreaMeaning} {full : List (List Bool)} {room spare spare_room : ℕ}
    {s : ShelfMeaning} (view : shelf_of v quota ids origin starts sized_areas ≡ s) (is : IsShelfOf v quota ids starts sized_areas full room spare spare_room) where
  pub valid_s : IsValidShelf s
  valid_s = subst IsValidShelf view (is_valid origin is)

  state_s : heap_among starts sized_areas ≡ s.state
  state_s = ap (λ (t : ShelfMeaning). t.state) view

  pub few_s : length sized_areas ≤ 1024
  few_s = let fits = is.supplied.within in let most = is.supplied.most in omega arith

  -- how many areas a class has
  pub count_s : {e : ℕ} → e ≤ 16 → count_of s e ≡ get_or starts (e - 5 + 1) 0 - get_or starts (e - 5) 0
  count_s {e} high = sym (ap (λ (t : ShelfMeaning). count_of t e) view) ∙ count_at starts (e - 5) (omega arith)

  pub rising_s : {e : ℕ} → e ≤ 16 → get_or starts (e - 5) 0 ≤ get_or starts (e - 5 + 1) 0
  rising_s {e} high = is.arranged.rising (e - 5) (omega arith)

  pub few_o : {e o k : ℕ} → Stands starts e o k → o < 1024
  few_o {e} st = let in_k = stands_in is.arranged st in let at = st.at in let few = few_s in omega arith

  -- chunk j of area o of class e
  pub chunk_s : {e o k j q : ℕ} → Stands starts e o k → IsNumber e o j q → (d : SizedAreaMeaning) → heap_chunk s.state q ≡ area_chunk (get_or sized_areas k d) j
  chunk_s {q = q} st n d = ap (λ t. heap_chunk t q) (sym state_s) ∙ chunk_there is.arranged st n d

  -- past the areas of a class there is no chunk
  pub past_s : (q : ℕ) → (Inside starts q → ⊥) → heap_chunk s.state q ≡ no_chunk
  past_s q not_in =
      ap (λ t. heap_chunk t q) (sym state_s) ∙ heap_is starts sized_areas q is.arranged.starts_len
      ∙ elim (lies starts q is.arranged.starts_len) as (λ _. chunk_among starts sized_areas q ≡ no_chunk) [ outside _ none ↦ none sized_areas | inside at ↦ absurd (not_in at) ]

  -- ---- the chunks of an area change

  -- the shelf after the chunks of area o of class e changed, each in this way: its areas and its marks of full ones
  pub record Changed (e o : ℕ) (sized_areas' : List SizedAreaMeaning) (full' : List (List Bool)) (Change : ℕ → ChunkMeaning → ChunkMeaning → Type 0) : Type 0 where
    pub shelf : IsShelfOf v quota ids starts sized_areas' full' room spare spare_room
    pub valid : IsValidShelf (shelf_of v quota ids origin starts sized_areas')
    pub same : shelf_of v quota ids origin starts sized_areas' ≡ record s { state = heap_among starts sized_areas' }
    pub area : IsChangedArea s.state (heap_among starts sized_areas') e o Change

  -- the shelf after this became the chunk of number n
  pub record Now (n : ℕ) (sized_areas' : List SizedAreaMeaning) (full' : List (List Bool)) (x : Option (List ℕ)) (b : Bool) : Type 0 where
    pub shelf : IsShelfOf v quota ids starts sized_areas' full' room spare spare_room
    pub gives : shelf_of v quota ids origin starts sized_areas' ≡ with_put s n x b
    pub valid_shelf : IsValidShelf (shelf_of v quota ids origin starts sized_areas')

  -- the shelf after the bytes of a live chunk of number n became others
  pub record Written (n : ℕ) (sized_areas' : List SizedAreaMeaning) (f : List ℕ → List ℕ) : Type 0 where
    pub shelf : IsShelfOf v quota ids starts sized_areas' full room spare spare_room
    pub gives : MatchOption (get s.state.live n) ⊥ (λ old. shelf_of v quota ids origin starts sized_areas' ≡ with_put s n (Some (f old)) true)
    pub valid_shelf : IsValidShelf (shelf_of v quota ids origin starts sized_areas')

  module _ {e o k : ℕ} (st : Stands starts e o k) {q : SizedAreaMeaning} (here : q ≡ get_or sized_areas k q) where
    small_c : e - 5 < 12
    small_c = let high = st.most in omega arith

    pub placed_q : IsPlaced v e o q
    placed_q = subst (IsPlaced v e o) (sym here) (placed_at is.arranged st q)

    pub sized_q : (n : ℕ) → IsSizeOf s.version e n → IsSizeOf q.version q.exponent n
    sized_q n sized =
        subst (λ w. IsSizeOf w q.exponent n) (sym (placed_q.version ∙ ap (λ (t : ShelfMeaning). t.version) view)) (subst (λ x. IsSizeOf s.version x n) (sym placed_q.exponent) sized)

    pub long_q : length q.chunks ≡ per e
    long_q = placed_q.sized_area.whole ∙ ap per placed_q.exponent

    pub chunk_q : {j n : ℕ} → IsNumber e o j n → heap_chunk s.state n ≡ area_chunk q j
    chunk_q {j} num = chunk_s st num q ∙ ap (λ (p : SizedAreaMeaning). area_chunk p j) (sym here)

    module _ {p : SizedAreaMeaning} (valid : IsSizedArea p) (same_place : p ≡ record q { chunks = p.chunks; touched = p.touched }) where
      long_p : length p.chunks ≡ length q.chunks
      long_p = valid.whole ∙ ap (λ (x : SizedAreaMeaning). per x.exponent) same_place ∙ sym placed_q.sized_area.whole

      -- where the same chunks are live, the marks stay
      pub marks_stay : ((i : ℕ) → is_some (get_or p.chunks i None) ≡ is_some (get_or q.chunks i None)) → Remarks full full (e - 5) o p
      marks_stay same = remarks_kept is.arranged small_c st.within (here ∙ ap (λ i. get_or sized_areas i q) st.at) long_p same

      shelf_p : {full' : List (List Bool)} → Remarks full full' (e - 5) o p → IsShelfOf v quota ids starts (set sized_areas k p) full' room spare spare_room
      shelf_p marks = record {
        arranged = arranged-put is.arranged small_c st.within st.at (record {
          sized_area = valid;
          version = ap (λ (x : SizedAreaMeaning). x.version) same_place ∙ placed_q.version;
          exponent = ap (λ (x : SizedAreaMeaning). x.exponent) same_place ∙ placed_q.exponent ∙ (let low = st.least in let h : e ≡ e - 5 + 5 = omega arith in h);
          ordinal = ap (λ (x : SizedAreaMeaning). x.ordinal) same_place ∙ placed_q.ordinal;
        }) marks;
        supplied = supplied-put k q p is.supplied (stands_in is.arranged st) (ap (λ (x : SizedAreaMeaning). x.identity) same_place ∙ ap (λ (x : SizedAreaMeaning). x.identity) here);
      }

      -- the shelf after the area became p
      pub changed : {full' : List (List Bool)} → Remarks full full' (e - 5) o p → (Change : ℕ → ChunkMeaning → ChunkMeaning → Type 0) → ((j : ℕ) → Change j (area_chunk q j) (area_chunk p j)) → Changed e o (set sized_areas k p) full' Change
      changed marks Change each =
          let shelf = shelf_p marks in
          let new : List SizedAreaMeaning = set sized_areas k p in
          record {
            shelf = shelf;
            valid = is_valid origin shelf;
            same = ap (λ (t : ShelfMeaning). record t { state = heap_among starts new }) view;
            area = record {
              here = λ n class area.
                  let num = number_of class area in
                  let j : ℕ = index_of n % per e in
                  let now = chunk_there shelf.arranged st num p ∙ ap (λ (x : SizedAreaMeaning). area_chunk x j) (get_or-set_same sized_areas k p p (stands_in is.arranged st)) in
                  subst (λ x. Change j x (heap_chunk (heap_among starts new) n)) (sym (chunk_q num)) (subst (Change j (area_chunk q j)) (sym now) (each j));
              others = λ n ne.
                  heap_is starts new n is.arranged.starts_len
                  ∙ elim (lies starts n is.arranged.starts_len) as (λ _. chunk_among starts new n ≡ heap_chunk (heap_among starts sized_areas) n) [
                    | outside _ none ↦ none new ∙ sym (heap_is starts sized_areas n is.arranged.starts_len ∙ none sized_areas)
                    | inside at ↦
                        among_in n new at
                        ∙ ap (λ (x : SizedAreaMeaning). area_chunk x (index_of n % per (exponent_of n)))
                        (get_or-set_other sized_areas k (place_of_number starts n) p no_area (λ same.
                        let one = apart is.arranged (index_of n / per (exponent_of n)) o (let m = at.most in omega arith) small_c at.within st.within (same ∙ st.at) in
                        let class : exponent_of n ≡ e = (let a = one.0 in let b = at.least in let c = st.least in omega arith) in
                        ne class (ap (λ x. index_of n / per x) (sym class) ∙ one.1)))
                        ∙ sym (heap_is starts sized_areas n is.arranged.starts_len ∙ among_in n sized_areas at)
                  ]
                  ∙ ap (λ t. heap_chunk t n) state_s;
            };
          }

    -- one chunk of the area becomes this one
    module _ {j n : ℕ} (num : IsNumber e o j n) (below : j < length q.chunks) {p : SizedAreaMeaning} (x : Option (List ℕ)) (b : Bool) (step : p ≡ area_with_chunk q j x b) (valid : IsSizedArea p) where
      same_place : p ≡ record q { chunks = p.chunks; touched = p.touched }
      same_place = step ∙ (λ i. record q { chunks = sym (ap (λ (z : SizedAreaMeaning). z.chunks) step) i; touched = sym (ap (λ (z : SizedAreaMeaning). z.touched) step) i })

      is_there : area_chunk p j ≡ record { bytes = x; touched = b }
      is_there =
          ap (λ (z : SizedAreaMeaning). area_chunk z j) step
          ∙ (λ i. record { bytes = get_or-set_same q.chunks j x None below i; touched = get_or-set_same q.touched j b false (let m = placed_q.sized_area.marks in omega arith) i })

      is_other : (i : ℕ) → (i ≡ j → ⊥) → area_chunk p i ≡ area_chunk q i
      is_other i ne = ap (λ (z : SizedAreaMeaning). area_chunk z i) step ∙ (λ t. record { bytes = get_or-set_other q.chunks j i x None ne t; touched = get_or-set_other q.touched j i b false ne t })

      pub put_now : {full' : List (List Bool)} → Remarks full full' (e - 5) o p → Now n (set sized_areas k p) full' x b
      put_now marks =
          let c : ChunkMeaning = record { bytes = x; touched = b } in
          let now = changed valid same_place marks (λ i old new. (i ≡ j → new ≡ c) × ((i ≡ j → ⊥) → new ≡ old)) (λ i. (λ same. ap (area_chunk p) same ∙ is_there, is_other i)) in
          let new : HeapState = heap_among starts (set sized_areas k p) in
          let state : new ≡ put s.state n c =
          put_is s.state new n c ((now.area.here n num.exponent num.area).0 num.chunk) (λ m ne.
          elim (cases_eq (exponent_of m) e) as (λ _. heap_chunk new m ≡ heap_chunk s.state m) [
            | inr other ↦ now.area.others m (λ a _. other a)
            | inl class ↦
                elim (cases_eq (index_of m / per e) o) as (λ _. heap_chunk new m ≡ heap_chunk s.state m) [
                  | inr other ↦ now.area.others m (λ _ a. other a)
                  | inl area ↦ (now.area.here m class area).1 (λ same. ne (number_is (number_of class area) ∙ ap (λ z. number e (o * per e + z)) same ∙ sym (number_is num)))
                ]
          ]) in
          record { shelf = now.shelf; gives = now.same ∙ ap (λ t. record s { state = t }) state; valid_shelf = now.valid }

      -- where it is live as before, the marks stay
      pub put_alike : is_some x ≡ is_some (get_or q.chunks j None) → Now n (set sized_areas k p) full x b
      put_alike alike =
          put_now (marks_stay valid same_place (λ i.
          elim (cases_eq i j) as (λ _. is_some (get_or p.chunks i None) ≡ is_some (get_or q.chunks i None)) [
            | inl same ↦ ap (λ z. is_some (get_or p.chunks z None)) same ∙ ap (λ (c : ChunkMeaning). is_some c.bytes) is_there ∙ alike ∙ sym (ap (λ z. is_some (get_or q.chunks z None)) same)
            | inr ne ↦ ap (λ (c : ChunkMeaning). is_some c.bytes) (is_other i ne)
          ]))

-- ---- the chunk of a handle

module _ {v : Version} {quota : ℕ} {ids : List SegmentId} {origin : Origin} {starts : List ℕ} {sized_areas : List SizedAreaMeaning} {full : List (List Bool)} {room spare spare_room : ℕ}
    {s : ShelfMeaning} (view : shelf_of v quota ids origin starts sized_areas ≡ s) (is : IsShelfOf v quota ids starts sized_areas full room spare spare_room) {e : ℕ} (low : 5 ≤ e) (high : e ≤ 16) (i : ℕ) (small : i < 2 ^ 32) where
  -- what `find` ensures of a place
  abbrev pub Finds : ℕ → ℕ → ℕ → Type 0
  Finds o j k = (o ≡ i / per e) × (j ≡ i % per e) × (k ≡ get_or starts (e - 5) 0 + i / per e) × (get_or starts (e - 5) 0 + i / per e < get_or starts (e - 5 + 1) 0)

  pub number_i : IsNumber e (i / per e) (i % per e) (number e i)
  number_i =
      let index : index_of (number e i) ≡ i = omega arith in
      record { exponent = omega arith; area = ap (λ n. n / per e) index; chunk = ap (λ n. n % per e) index; small = (let parts = div-add-mod' i (per e) in omega arith) }

  -- no chunk lies past the areas of the class
  pub gone_e : get_or starts (e - 5 + 1) 0 ≤ get_or starts (e - 5) 0 + i / per e → heap_chunk s.state (number e i) ≡ no_chunk
  gone_e past =
      past_s view is (number e i) (λ at.
      let n = number_i in
      let a = ap (λ x. get_or starts (x - 5) 0) n.exponent in
      let b = ap (λ x. get_or starts (x - 5 + 1) 0) n.exponent in
      let c : index_of (number e i) / per (exponent_of (number e i)) ≡ i / per e = ap (λ x. index_of (number e i) / per x) n.exponent ∙ n.area in
      let w = at.within in
      omega arith)

  pub past_e : get_or starts (e - 5 + 1) 0 ≤ get_or starts (e - 5) 0 + i / per e → get s.state.live (number e i) ≡ None
  past_e past = ap (λ (c : ChunkMeaning). c.bytes) (gone_e past)

  -- nor is one touched there
  pub untouched_e : get_or starts (e - 5 + 1) 0 ≤ get_or starts (e - 5) 0 + i / per e
      → contains s.state.touched (number e i) ≡ false
  untouched_e past = ap (λ (c : ChunkMeaning). c.touched) (gone_e past)

  pub quiet_e : get_or starts (e - 5 + 1) 0 ≤ get_or starts (e - 5) 0 + i / per e → s ≡ record s { state = without_touch s.state (number e i) }
  quiet_e past = ap (λ st. record s { state = st }) (quiet_is s.state (number e i) (untouched_e past))

  pub not_past : IsSome (get s.state.live (number e i)) → get_or starts (e - 5 + 1) 0 ≤ get_or starts (e - 5) 0 + i / per e → ⊥
  not_past some past = let gone = ap is_some (past_e past) in absurd cc

  module _ {o j k : ℕ} (finds : Finds o j k) where
    pub stands_e : Stands starts e o k
    stands_e = let o_is = finds.0 in let at = finds.2 in let w = finds.3 in record { least = low; most = high; within = omega arith; at = omega arith }

    pub number_e : IsNumber e o j (number e i)
    number_e = subst (λ x. IsNumber e x j (number e i)) (sym finds.0) (subst (λ x. IsNumber e (i / per e) x (number e i)) (sym finds.1) number_i)

    pub in_e : k < length sized_areas
    in_e = stands_in is.arranged stands_e

    -- the ordinal is small
    pub few_e : o < MOST_CHUNKS
    few_e = let few = few_o view is stands_e in omega arith

    module _ {q : SizedAreaMeaning} (here : q ≡ get_or sized_areas k q) where
      pub inside_e : j < length q.chunks
      inside_e = let n = long_q view is stands_e here in let j_is = finds.1 in let below = mod_below i (per e) (pow_pos (16 - e)) in omega arith

      pub chunk_e : heap_chunk s.state (number e i) ≡ area_chunk q j
      chunk_e = chunk_q view is stands_e here number_e

      pub bytes_e : get s.state.live (number e i) ≡ get_or q.chunks j None
      bytes_e = ap (λ (c : ChunkMeaning). c.bytes) chunk_e

      pub touched_e : contains s.state.touched (number e i) ≡ get_or q.touched j false
      touched_e = ap (λ (c : ChunkMeaning). c.touched) chunk_e

      pub sized_e : (n : ℕ) → IsSizeOf s.version e n → IsSizeOf q.version q.exponent n
      sized_e = sized_q view is stands_e here

      -- bytes of a live chunk change
      pub written : {p : SizedAreaMeaning} (f : List ℕ → List ℕ) → MatchOption (get_or q.chunks j None) ⊥ (λ old. p ≡ area_with_chunk q j (Some (f old)) true) → IsSizedArea p → Written view is (number e i) (set sized_areas k p) f
      written {p} f step valid =
          let was = matched (get_or q.chunks j None) (λ old. p ≡ area_with_chunk q j (Some (f old)) true) step in
          let now = put_alike view is stands_e here number_e inside_e (Some (f was.0)) true was.2 valid (ap is_some (sym was.1)) in
          record { shelf = now.shelf; gives = match_some was.0 _ (bytes_e ∙ was.1) now.gives; valid_shelf = now.valid_shelf }

      -- a chunk is given up
      pub released : {p : SizedAreaMeaning} {full' : List (List Bool)} → p ≡ area_with_chunk q j None false → IsSizedArea p → full' ≡ marks_with full (e - 5) o false → Now view is (number e i) (set sized_areas k p) full' None false
      released {p} step valid marks =
          put_now view is stands_e here number_e inside_e None false step valid
          (subst (λ f. Remarks full f (e - 5) o p) (sym marks) (remarks_with is.arranged (e - 5) o p false (omega arith) few_e (record {
            full = λ h. absurd cc;
            free = λ h. subst (λ (x : SizedAreaMeaning). (i : ℕ) × (i < length x.chunks) × (get_or x.chunks i None ≡ None)) (sym step) (j, (let l = inside_e in omega (arith, length-set q.chunks j None)), get_or-set_same q.chunks j None None inside_e);
          })))

      -- a chunk is put back, and the area's mark says whether it is full now
      pub put_back : {p : SizedAreaMeaning} {full' : List (List Bool)} {c : ℕ} (ys : List ℕ) (b : Bool) → p ≡ area_with_chunk q j (Some ys) false → IsSizedArea p
          → c ≡ e - 5 → full' ≡ marks_with full c o b → IsTrue b ↔ IsFullArea p → Now view is (number e i) (set sized_areas k p) full' (Some ys) false
      put_back {p} ys b step valid same after filled =
          put_now view is stands_e here number_e inside_e (Some ys) false step valid
          (subst (λ f. Remarks full f (e - 5) o p) (sym (after ∙ ap (λ x. marks_with full x o b) same)) (remarks_with is.arranged (e - 5) o p b (omega arith) few_e (marked_by filled)))

      -- a chunk isn't touched any more
      pub forgotten : {p : SizedAreaMeaning} → p ≡ area_with_chunk q j (get_or q.chunks j None) false → IsSizedArea p → Now view is (number e i) (set sized_areas k p) full (get s.state.live (number e i)) false
      forgotten {p} step valid =
          subst (λ x. Now view is (number e i) (set sized_areas k p) full x false) (sym bytes_e) (put_alike view is stands_e here number_e inside_e (get_or q.chunks j None) false step valid refl)

      pub forgotten_e : {p : SizedAreaMeaning} → p ≡ area_with_chunk q j (get_or q.chunks j None) false → IsSizedArea p → shelf_of v quota ids origin starts (set sized_areas k p) ≡ record s { state = without_touch s.state (number e i) }
      forgotten_e step valid = (forgotten step valid).gives ∙ ap (λ st. record s { state = st }) (sym (forgotten_is s.state (number e i)))

-- ---- the first free chunk, where the code calls the class k

module _ {v : Version} {quota : ℕ} {ids : List SegmentId} {origin : Origin} {starts : List ℕ} {sized_areas : List SizedAreaMeaning} {full : List (List Bool)} {room spare spare_room : ℕ}
    {s : ShelfMeaning} (view : shelf_of v quota ids origin starts sized_areas ≡ s) (is : IsShelfOf v quota ids starts sized_areas full room spare spare_room) {e : ℕ} (low : 5 ≤ e) (high : e ≤ 16) where
  -- how many areas class k has
  abbrev pub many_of : ℕ → ℕ
  many_of k = get_or starts (k + 1) 0 - get_or starts k 0

  pub full_in : {k : ℕ} → k ≡ e - 5 → k < length full
  full_in same = let n = is.arranged.full_len in omega arith

  pub rising_e : get_or starts (e - 5) 0 ≤ get_or starts (e - 5 + 1) 0
  rising_e = rising_s view is high

  pub end_k : {k : ℕ} → k ≡ e - 5 → get_or starts (k + 1) 0 ≤ length sized_areas
  end_k {k} same = let small : k < 12 = omega arith in class_end is.arranged small

  pub limit_k : (k : ℕ) → k ≡ e - 5 → many_of k ≤ 1024
  limit_k k same = let top = end_k same in let few = few_s view is in omega arith

  pub stands_a : {k o : ℕ} → k ≡ e - 5 → o < many_of k → Stands starts e o (get_or starts k 0 + o)
  stands_a {k} {o} same l = let m = ap many_of same in record { least = low; most = high; within = omega arith; at = ap (λ x. get_or starts x 0 + o) same }

  pub place_in : {k o : ℕ} → k ≡ e - 5 → o < many_of k → get_or starts k 0 + o < length sized_areas
  place_in same l = stands_in is.arranged (stands_a same l)

  pub count_k : {k : ℕ} → k ≡ e - 5 → many_of k ≡ count_of s e
  count_k same = ap many_of same ∙ sym (count_s view is high)

  pub count_in : {k o : ℕ} → k ≡ e - 5 → o < count_of s e → o < many_of k
  count_in same l = let n = count_k same in omega arith

  -- the class has no such area
  pub no_such_area : {k o : ℕ} (Change : ℕ → ChunkMeaning → ChunkMeaning → Type 0) → k ≡ e - 5 → many_of k ≤ o → ((i : ℕ) → Change i no_chunk no_chunk) → IsChangedArea s.state s.state e o Change
  no_such_area {k} {o} Change same past idle = record {
    here = λ q class area.
        let gone : heap_chunk s.state q ≡ no_chunk =
        past_s view is q (λ at.
        let m = ap many_of same in
        let a = ap (λ x. get_or starts (x - 5) 0) class in
        let b = ap (λ x. get_or starts (x - 5 + 1) 0) class in
        let c = ap (λ x. index_of q / per x) class in
        let w = at.within in
        omega arith) in
        subst (λ x. Change (index_of q % per e) x x) (sym gone) (idle (index_of q % per e));
    others = λ q ne. refl;
  }

  -- each chunk of an area that is marked is live
  full_chunk : {o : ℕ} → get_or starts (e - 5) 0 + o < get_or starts (e - 5 + 1) 0 → IsSet (marks_of_class full (e - 5)) o → {j n : ℕ} → j < per e → IsNumber e o j n → IsSome (get s.state.live n)
  full_chunk {o} within marked {j} below num =
      let st : Stands starts e o (get_or starts (e - 5) 0 + o) = record { least = low; most = high; within = within; at = refl } in
      let area : SizedAreaMeaning = get_or sized_areas (get_or starts (e - 5) 0 + o) no_area in
      let long : length area.chunks ≡ per e = (let p = placed_at is.arranged st no_area in p.sized_area.whole ∙ ap per p.exponent) in
      ap (λ (c : ChunkMeaning). is_some c.bytes) (chunk_s view is st num no_area) ∙ (is.arranged.marked (e - 5) o no_area (omega arith) within).full marked j (omega arith)

  number_in : (i : ℕ) → i < 2 ^ 32 → IsNumber e (i / per e) (i % per e) (number e i)
  number_in i small = number_i view is low high i small

  pub full_k : (k : ℕ) (bits : List Bool) → k ≡ e - 5 → bits ≡ get_or full k bits → ((o : ℕ) → o < many_of k → IsSet bits o) → (i : ℕ) → i < count_of s e * per e → IsSome (get s.state.live (number e i))
  full_k k bits same read marked i l =
      let m : many_of k ≡ many_of (e - 5) = ap many_of same in
      let n = count_s view is high in
      let o_in : i / per e < count_of s e = div_below i (per e) (count_of s e) (pow_pos (16 - e)) l in
      let few = limit_k (e - 5) refl in
      let rows = row_fits (count_of s e - 1) (per e) 2048 2048 (omega arith) (per_fits low) in
      let small : i < 2 ^ 32 = (let y : count_of s e * per e ≡ (count_of s e - 1) * per e + per e = (let z = add-mul (count_of s e - 1) 1 (per e) in let w : count_of s e - 1 + 1 ≡ count_of s e = omega arith in let u = ap (λ x. x * per e) w in omega arith) in omega arith) in
      full_chunk (omega arith) (subst (λ bs. IsSet bs (i / per e)) (marks_read full same read (full_in same)) (marked (i / per e) (omega arith))) (mod_below i (per e) (pow_pos (16 - e))) (number_in i small)

  module _ {k o : ℕ} {bits : List Bool} (same : k ≡ e - 5) (read : bits ≡ get_or full k bits) (clear : IsFirstClear bits (many_of k) o) where
    clear_e : IsFirstClear (marks_of_class full (e - 5)) (many_of (e - 5)) o
    clear_e =
        subst (λ n. IsFirstClear (marks_of_class full (e - 5)) n o) (ap many_of same)
        (subst (λ bs. IsFirstClear bs (many_of k) o) (marks_read full same read (full_in same)) clear)

    pub stands_k : Stands starts e o (get_or starts k 0 + o)
    stands_k = record { least = low; most = high; within = (let l = clear_e.below in let up = rising_s view is high in omega arith); at = ap (λ x. get_or starts x 0 + o) same }

    pub place_k : get_or starts k 0 + o < length sized_areas
    place_k = stands_in is.arranged stands_k

    pub small_k : o < MOST_CHUNKS
    small_k = let l = few_o view is stands_k in omega arith

    module _ {q : SizedAreaMeaning} (here : q ≡ get_or sized_areas (get_or starts k 0 + o) q) where
      pub sized_k : (n : ℕ) → IsSizeOf s.version e n → IsSizeOf q.version q.exponent n
      sized_k = sized_q view is stands_k here

      pub not_full_k : IsFullArea q → ⊥
      not_full_k filled =
          let marked = is.arranged.marked (e - 5) o q (omega arith) stands_k.within in
          let area : q ≡ get_or sized_areas (get_or starts (e - 5) 0 + o) q = here ∙ ap (λ x. get_or sized_areas x q) stands_k.at in
          not_both q filled (subst (λ (p : SizedAreaMeaning). (i : ℕ) × (i < length p.chunks) × (get_or p.chunks i None ≡ None)) (sym area) (marked.free clear_e.is_clear))

      module _ {j : ℕ} (free : IsFreeIn q.chunks j) {r : ℕ} (r_is : r ≡ per e) where
        below_k : j < per e
        below_k = let l = free.within in let n = long_q view is stands_k here in omega arith

        number_k : IsNumber e o j (number e (o * r + j))
        number_k = subst (λ x. IsNumber e o j (number e (o * x + j))) (sym r_is) (is_number o j low (few_o view is stands_k) below_k)

        pub fits_k : (o * r < 2 ^ 32) × (o * r + j < 2 ^ 32)
        fits_k = let small = number_k.small in let a = ap (λ x. o * x) r_is in (omega arith, omega arith)

        pub first_k : IsFirstFree s.state e (o * r + j)
        first_k = record {
          small = fits_k.1;
          free = ap (λ (c : ChunkMeaning). c.bytes) (chunk_q view is stands_k here number_k) ∙ free.free;
          least = λ i less.
              let num = number_in i (let small = fits_k.1 in omega arith) in
              let within = stands_k.within in
              let parts = div-add-mod' i (per e) in
              let a = ap (λ x. o * x) r_is in
              elim (cases_lt (i / per e) o) as (λ _. IsSome (get s.state.live (number e i))) [
                | inl before ↦ full_chunk (omega arith) (clear_e.least (i / per e) before) (mod_below i (per e) (pow_pos (16 - e))) num
                | inr from ↦
                    let one : i / per e ≡ o = not_above (i / per e) o (i % per e) j (per e) from (omega arith) below_k in
                    let b : o * per e ≡ i / per e * per e = ap (λ x. x * per e) (sym one) in
                    ap (λ (c : ChunkMeaning). is_some c.bytes) (chunk_q view is stands_k here (subst (λ x. IsNumber e x (i % per e) (number e i)) one num)) ∙ free.least (i % per e) (omega arith)
              ];
        }

        pub taken_k : {p : SizedAreaMeaning} {full' : List (List Bool)} (n : ℕ) (b : Bool) → p ≡ area_with_chunk q j (Some (replicate n 0)) true → IsSizedArea p
            → full' ≡ cond b (marks_with full k o true) full → IsTrue b ↔ IsFullArea p → Now view is (number e (o * r + j)) (set sized_areas (get_or starts k 0 + o) p) full' (Some (replicate n 0)) true
        taken_k {p} n b step valid after filled =
            put_now view is stands_k here number_k free.within (Some (replicate n 0)) true step valid
            (remarks_taken is.arranged (e - 5) o p b (omega arith) small_k clear_e.is_clear (after ∙ ap (λ x. cond b (marks_with full x o true) full) same) filled)
