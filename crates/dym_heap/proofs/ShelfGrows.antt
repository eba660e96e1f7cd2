-- The clauses of a shelf's calls by which areas come and go.
use Rattle.std.proofs.Common.{◌≡◌, ℕ, ◌+◌, ◌-◌, ◌*◌, ◌/◌, ◌%◌, ◌<◌, ◌≤◌, inl, inr, Bool, true, false, cond, is_some, IsSome, Option, Some, None, List, length, get_or, set, replicate, refl, sym, ap, subst, ◌∙◌, arith, get_or-set_same, MatchOption, MatchBool}
use Rattle.std.specs.List.{insert, remove}
use Rattle.std.specs.FinMap.{get}
use Rattle.std.specs.FinSet.{contains}
use Rattle.std.proofs.lemmas.Bool.{cases_lt}
use Rattle.std.proofs.lemmas.List.{get_or_past, set-get_or, set-set, length-replicate, get_or-replicate}
use Rattle.std.proofs.lemmas.List.Edits.{length-remove}
use Rattle.std.proofs.lemmas.Nat.{pow_pos}
use Rattle.dym_base.specs.Numbers.{per, number, exponent_of, index_of}
use Rattle.dym_base.specs.Origins.{Origin}
use Rattle.dym_base.specs.declared.command.Version.{Version}
use Rattle.dym_base.specs.declared.command.Version.TheVariants.{One, Two}
use Rattle.dym_region.specs.declared.segment.SegmentId.{SegmentId}
use Rattle.dym_quota.specs.HeldIds.{IsHeld, GivesBack}
use Rattle.dym_heap.specs.Chunks.{ChunkMeaning, heap_chunk, no_chunk}
use Rattle.dym_heap.specs.Fetches.{area_chunk}
use Rattle.dym_heap.specs.Shelves.{ShelfMeaning, IsValidShelf, IsTrimmed, count_of, with_count, EndsFree}
use Rattle.dym_heap.specs.SizedAreas.{SizedAreaMeaning, IsSizedArea}
use Rattle.dym_heap.specs.Lengths.{version_of}
use Rattle.dym_heap.specs.declared.lengths.Lengths.{Lengths}
use Rattle.dym_heap.specs.Arrangement.{IsPlaced, HasFree, HasTables, shelf_of, Shifts, Unshifts, place_of_number, chunk_among}
use Rattle.dym_heap.proofs.Owned.{area_held, as_many, supplied-insert, supplied-remove, table_there}
use Rattle.dym_heap.proofs.PlaceCalls.{empty_place}
use Rattle.dym_heap.proofs.Starts.{starts_upto, class_end, Stands, Inside, IsNumber, is_number, heap_is, placed_at}
use Rattle.dym_heap.proofs.Arranged as arranged
use Rattle.dym_heap.proofs.ShelfCalls as calls
use Rattle.dym_heap.proofs.ShelfParts.{IsShelfOf}

-- a table of lengths is taken in version 2 alone
pub popped : (v : Version) (quota areas spare spare' room : ℕ) (o : Option Lengths) → HasTables v quota areas spare room → areas < quota → MatchOption o ((spare ≡ 0) × (spare' ≡ 0)) (λ _. spare' + 1 ≡ spare)
    → (version_of o ≡ v) × (spare' ≡ spare - 1)
popped v quota areas spare spare' room None has less cases =
    elim (table_there v quota areas spare room has less) as (λ _. (One ≡ v) × (spare' ≡ spare - 1)) [
      | inl one ↦ (sym one.0, (let a = cases.0 in let b = cases.1 in omega arith))
      | inr two ↦ absurd (let a = two.1 in let b = cases.0 in omega arith)
    ]
popped v quota areas spare spare' room (Some t) has less cases =
    elim (table_there v quota areas spare room has less) as (λ _. (Two ≡ v) × (spare' ≡ spare - 1)) [
      | inl one ↦ absurd (let a = one.1 in omega arith)
      | inr two ↦ (sym two.0, omega arith)
    ]

-- a table of lengths is kept in version 2 alone
pub returned : (v : Version) (quota areas areas' spare spare' room room' : ℕ) (o : Option Lengths) → HasTables v quota areas spare room → areas' + 1 ≡ areas → version_of o ≡ v → spare' ≡ cond (is_some o) (spare + 1) spare → room ≤ room'
    → HasTables v quota areas' spare' room'
returned One quota areas areas' spare spare' room room' None has less is now bigger = omega arith
returned One quota areas areas' spare spare' room room' (Some t) has less is now bigger = absurd cc
returned Two quota areas areas' spare spare' room room' None has less is now bigger = absurd cc
returned Two quota areas areas' spare spare' room room' (Some t) has less is now bigger = let a = has.0 in let b = has.1 in (omega arith, omega arith)

-- where a table is to be kept there is room for it
pub table_room : (v : Version) (quota areas spare room : ℕ) (o : Option Lengths) → HasTables v quota areas spare room → 0 < areas → version_of o ≡ v → IsSome o → spare < room
table_room One quota areas spare room (Some t) has some is h = absurd cc
table_room One quota areas spare room None has some is h = absurd cc
table_room Two quota areas spare room o has some is h = let a = has.0 in let b = has.1 in omega arith

pub roomy : {v : Version} {quota : ℕ} {ids : List SegmentId} {starts : List ℕ} {sized_areas : List SizedAreaMeaning} {full : List (List Bool)} {room room' spare spare_room : ℕ} → room' ≡ room
    → IsShelfOf v quota ids starts sized_areas full room spare spare_room → IsShelfOf v quota ids starts sized_areas full room' spare spare_room
roomy {v} {quota} {ids} {starts} {sized_areas} {full} {spare} {spare_room} same is = subst (λ r. IsShelfOf v quota ids starts sized_areas full r spare spare_room) (sym same) is

get_or_same : {A : Type 0} (n i : ℕ) (x : A) → get_or (replicate n x) i x ≡ x
get_or_same n i x =
    elim (cases_lt i n) as (λ _. get_or (replicate n x) i x ≡ x) [ inl l ↦ get_or-replicate n i x x l | inr past ↦ get_or_past (replicate n x) i x (omega (arith, length-replicate n x)) ]

-- ---- areas that go, one after another

-- what a loop keeps that drops the last area again and again
abbrev pub Cuts : ShelfMeaning → ShelfMeaning → ℕ → Type 0
Cuts old new e = new ≡ with_count old e (count_of new e) new.held_ids

pub cuts_none : (s : ShelfMeaning) (e : ℕ) → Cuts s s e
cuts_none s e = ap (λ cs. record s { counts = cs }) (sym (set-get_or s.counts (e - 5) 0))

pub cuts_more : (old : ShelfMeaning) {mid new : ShelfMeaning} (e : ℕ) → Cuts old mid e → new ≡ with_count mid e (count_of mid e - 1) new.held_ids → e - 5 < length mid.counts → Cuts old new e
cuts_more old {mid} {new} e cuts dropped small =
    let n : ℕ = count_of mid e - 1 in
    let count : count_of new e ≡ n = ap (λ (t : ShelfMeaning). count_of t e) dropped ∙ get_or-set_same mid.counts (e - 5) n 0 small in
    dropped ∙ ap (λ (t : ShelfMeaning). with_count t e n new.held_ids) cuts ∙ ap (λ cs. record old { held_ids = new.held_ids; counts = cs }) (set-set old.counts (e - 5) (count_of mid e) n ∙ ap (set old.counts (e - 5)) (sym count))

module _ {v : Version} {quota : ℕ} {ids : List SegmentId} {origin : Origin} {starts : List ℕ} {sized_areas : List SizedAreaMeaning} {full : List (List Bool)} {room spare spare_room : ℕ}
    {s : ShelfMeaning} (view : shelf_of v quota ids origin starts sized_areas ≡ s) (is : IsShelfOf v quota ids starts sized_areas full room spare spare_room) {e : ℕ} (low : 5 ≤ e) (high : e ≤ 16) where
  -- where class c begins
  abbrev start_of : ℕ → ℕ
  start_of c = get_or starts c 0

  class_in : e - 5 < 12
  class_in = omega arith

  per_some : 0 < per e
  per_some = pow_pos (16 - e)

  class_is : e - 5 + 5 ≡ e
  class_is = omega arith

  pub below_quota : length s.held_ids < s.quota → length sized_areas < quota
  below_quota l = let a = sym (ap (λ (t : ShelfMeaning). length t.held_ids) view) ∙ as_many sized_areas is.supplied.owned in let b = ap (λ (t : ShelfMeaning). t.quota) view in omega arith

  pub end_in : {k : ℕ} → k ≡ e - 5 → start_of (k + 1) ≤ length sized_areas
  end_in {k} same = let top = class_end is.arranged class_in in let a = ap (λ x. start_of (x + 1)) same in omega arith

  pub rising_k : (k : ℕ) → k ≡ e - 5 → start_of k ≤ start_of (k + 1)
  rising_k k same = subst (λ x. start_of x ≤ start_of (x + 1)) (sym same) (is.arranged.rising (e - 5) class_in)

  pub room_in : length s.held_ids < s.quota → length sized_areas < room
  room_in l = let a = below_quota l in let b = is.supplied.has_room in omega arith

  pub starts_small : (d : ℕ) → start_of d ≤ 1024
  starts_small d =
      elim (cases_lt d 13) as (λ _. start_of d ≤ 1024) [
        | inl l ↦ (let up = starts_upto d 12 is.arranged (omega arith) (omega arith) in let last = is.arranged.last in let few = calls.few_s view is in omega arith)
        | inr past ↦ (let z = get_or_past starts d 0 (let n = is.arranged.starts_len in omega arith) in omega arith)
      ]

  -- ---- an area comes

  pub record Grown (ids' : List SegmentId) (quota' : ℕ) (origin' : Origin) (starts' : List ℕ) (sized_areas' : List SizedAreaMeaning) (room' spare' spare_room' : ℕ) : Type 0 where
    pub shelf : IsShelfOf v quota' ids' starts' sized_areas' full room' spare' spare_room'
    pub gives : shelf_of v quota' ids' origin' starts' sized_areas' ≡ with_count s e (count_of s e + 1) ids'
    pub valid_shelf : IsValidShelf (shelf_of v quota' ids' origin' starts' sized_areas')

  grown_at : {o : ℕ} (lengths : Option Lengths) {p : SizedAreaMeaning} {id : SegmentId} {ids' : List SegmentId} {starts' : List ℕ} (room' : ℕ) {spare' : ℕ}
      → length s.held_ids < s.quota → version_of lengths ≡ v → spare' ≡ spare - 1 → p ≡ empty_place (version_of lengths) e o id → IsSizedArea p → o ≡ start_of (e - 5 + 1) - start_of (e - 5)
      → GivesBack ids' ids id → Shifts starts starts' (e - 5) → room ≤ room' → Grown ids' quota origin starts' (insert sized_areas (start_of (e - 5 + 1)) p) room' spare' spare_room
  grown_at lengths {p} {ids'} {starts'} room' {spare'} less version fewer made valid ordinal more shift bigger =
      let at : ℕ = start_of (e - 5 + 1) in
      let empty : (j : ℕ) → area_chunk p j ≡ no_chunk =
      λ j. ap (λ (q : SizedAreaMeaning). area_chunk q j) made ∙ (λ i. record { bytes = get_or_same (per e) j None i; touched = get_or_same (per e) j false i }) in
      let placed : IsPlaced v (e - 5 + 5) (at - start_of (e - 5)) p = record {
        sized_area = valid;
        version = ap (λ (q : SizedAreaMeaning). q.version) made ∙ version;
        exponent = ap (λ (q : SizedAreaMeaning). q.exponent) made ∙ sym class_is;
        ordinal = ap (λ (q : SizedAreaMeaning). q.ordinal) made ∙ ordinal;
      } in
      let long : length p.chunks ≡ per e = ap (λ (q : SizedAreaMeaning). length q.chunks) made ∙ length-replicate {A = Option (List ℕ)} (per e) None in
      let free : HasFree p = (0, (let z = per_some in omega arith), ap (λ (c : ChunkMeaning). c.bytes) (empty 0)) in
      let supplied = supplied-insert room' at p is.supplied (below_quota less) (end_in refl) (subst (GivesBack ids' ids) (sym (ap (λ (q : SizedAreaMeaning). q.identity) made)) more) bigger fewer in
      let shelf : IsShelfOf v quota ids' starts' (insert sized_areas at p) full room' spare' spare_room = record { arranged = arranged.arranged-insert is.arranged starts' class_in p shift placed free; supplied = supplied } in
      let state = arranged.heap-insert is.arranged starts' class_in p shift empty in
      let counts = arranged.counts-insert is.arranged starts' class_in p shift in
      record {
        shelf = shelf;
        gives = (λ j. record { version = v; quota = quota; held_ids = ids'; origin = origin; counts = counts j; state = state j }) ∙ ap (λ (t : ShelfMeaning). with_count t e (count_of t e + 1) ids') view;
        valid_shelf = calls.is_valid origin shelf;
      }

  pub grown : {k o : ℕ} (lengths : Option Lengths) {p : SizedAreaMeaning} {id : SegmentId} {ids' : List SegmentId} {quota' : ℕ} {origin' : Origin} {starts' : List ℕ} (room' spare' : ℕ) {spare_room' : ℕ}
      → k ≡ e - 5 → length s.held_ids < s.quota → MatchOption lengths ((spare ≡ 0) × (spare' ≡ 0)) (λ _. spare' + 1 ≡ spare) → p ≡ empty_place (version_of lengths) e o id → IsSizedArea p → o ≡ start_of (k + 1) - start_of k
      → GivesBack ids' ids id → quota' ≡ quota → origin' ≡ origin → Shifts starts starts' k → room ≤ room' → spare_room' ≡ spare_room
      → {sized_areas' : List SizedAreaMeaning} → sized_areas' ≡ insert sized_areas (start_of (k + 1)) p → Grown ids' quota' origin' starts' sized_areas' room' spare' spare_room'
  grown {o} lengths {p} {id} {ids'} {quota'} {origin'} {starts'} room' spare' {spare_room'} same less cases made valid ordinal more quota_is origin_is shift bigger room_is items =
      let tables = popped v quota (length sized_areas) spare spare' spare_room lengths is.supplied.tables (below_quota less) cases in
      let at_k = grown_at lengths room' less tables.0 tables.1 made valid (ordinal ∙ ap (λ x. start_of (x + 1) - start_of x) same) more (subst (Shifts starts starts') same shift) bigger in
      subst (λ xs. Grown ids' quota' origin' starts' xs room' spare' spare_room') (sym items) (subst (λ x. Grown ids' quota' origin' starts' (insert sized_areas (start_of (x + 1)) p) room' spare' spare_room') (sym same)
      (subst (λ x. Grown ids' x origin' starts' (insert sized_areas (start_of (e - 5 + 1)) p) room' spare' spare_room') (sym quota_is)
      (subst (λ x. Grown ids' quota x starts' (insert sized_areas (start_of (e - 5 + 1)) p) room' spare' spare_room') (sym origin_is)
      (subst (λ x. Grown ids' quota origin starts' (insert sized_areas (start_of (e - 5 + 1)) p) room' spare' x) (sym room_is) at_k))))

  -- ---- the last area goes

  module _ (ends : EndsFree s e) where
    some_area : start_of (e - 5) < start_of (e - 5 + 1)
    some_area = let n = calls.count_s view is high in let some = ends.some in omega arith

    stands_last : (k : ℕ) → k ≡ e - 5 → Stands starts e (start_of (e - 5 + 1) - 1 - start_of (e - 5)) (start_of (k + 1) - 1)
    stands_last k same = let l = some_area in let a = ap (λ x. start_of (x + 1)) same in record { least = low; most = high; within = omega arith; at = omega arith }

    pub last_in : {k : ℕ} → k ≡ e - 5 → (1 ≤ start_of (k + 1)) × (start_of (k + 1) - 1 < length sized_areas)
    last_in {k} same = let l = some_area in let a = ap (λ x. start_of (x + 1)) same in let top = class_end is.arranged class_in in (omega arith, omega arith)

    pub last_held : (k : ℕ) (d : SizedAreaMeaning) → k ≡ e - 5 → IsHeld ids (get_or sized_areas (start_of (k + 1) - 1) d).identity
    last_held k d same = area_held sized_areas (start_of (k + 1) - 1) d is.supplied.owned (last_in same).1

    pub last_version : (k : ℕ) (d : SizedAreaMeaning) → k ≡ e - 5 → (get_or sized_areas (start_of (k + 1) - 1) d).version ≡ v
    last_version k d same = (placed_at is.arranged (stands_last k same) d).version

    pub starts_some : (k : ℕ) → k ≡ e - 5 → (d : ℕ) → k < d → d < 13 → 1 ≤ start_of d
    starts_some k same d past small = let l = some_area in let up = starts_upto (e - 5 + 1) d is.arranged (omega arith) (omega arith) in omega arith

    pub some_places : 0 < length sized_areas
    some_places = let l = (last_in refl).1 in omega arith

  pub record Dropped (ids' : List SegmentId) (quota' : ℕ) (origin' : Origin) (starts' : List ℕ) (sized_areas' : List SizedAreaMeaning) (spare' spare_room' : ℕ) : Type 0 where
    pub shelf : IsShelfOf v quota' ids' starts' sized_areas' full room spare' spare_room'
    pub gives : shelf_of v quota' ids' origin' starts' sized_areas' ≡ with_count s e (count_of s e - 1) ids'
    pub fewer : length ids' + 1 ≡ length s.held_ids
    pub valid_shelf : IsValidShelf (shelf_of v quota' ids' origin' starts' sized_areas')

  dropped_at : (ids' : List SegmentId) (starts' : List ℕ) (spare' spare_room' : ℕ) (d : SizedAreaMeaning) → EndsFree s e → GivesBack ids ids' (get_or sized_areas (start_of (e - 5 + 1) - 1) d).identity
      → HasTables v quota (length (remove sized_areas (start_of (e - 5 + 1) - 1))) spare' spare_room' → Unshifts starts starts' (e - 5)
      → Dropped ids' quota origin starts' (remove sized_areas (start_of (e - 5 + 1) - 1)) spare' spare_room'
  dropped_at ids' starts' spare' spare_room' d ends back tables shift =
      let k : ℕ = start_of (e - 5 + 1) - 1 in
      let l = some_area ends in
      let up : k + 1 ≡ start_of (e - 5 + 1) = omega arith in
      let st = stands_last ends (e - 5) refl in
      let o : ℕ = k - start_of (e - 5) in
      let count = calls.count_s view is high in
      let gone : (j q : ℕ) → IsNumber e o j q → (get s.state.live q ≡ None) = λ j q num. ends.free q num.exponent (let a = num.area in omega arith) in
      let num = is_number o 0 low (calls.few_o view is st) per_some in
      let free : HasFree (get_or sized_areas k d) = (
        0,
        (let p = placed_at is.arranged st d in let long = p.sized_area.whole ∙ ap per p.exponent in let some = per_some in omega arith),
        sym (ap (λ (c : ChunkMeaning). c.bytes) (calls.chunk_s view is st num d)) ∙ gone 0 _ num,
      ) in
      let empty : (q : ℕ) → Inside starts q → place_of_number starts q ≡ k → chunk_among starts sized_areas q ≡ no_chunk =
      λ q at place.
      let one = arranged.apart is.arranged (index_of q / per (exponent_of q)) o (let m = at.most in omega arith) class_in at.within st.within (place ∙ st.at) in
      let class : exponent_of q ≡ e = (let a = one.0 in let b = at.least in omega arith) in
      let area : index_of q / per e ≡ o = ap (λ x. index_of q / per x) (sym class) ∙ one.1 in
      let bytes : get s.state.live q ≡ None = gone (index_of q % per e) q (calls.number_of class area) in
      sym (heap_is starts sized_areas q is.arranged.starts_len) ∙ ap (λ (t : ShelfMeaning). heap_chunk t.state q) view ∙ (λ i. record { bytes = bytes i; touched = quiet q bytes i }) in
      let gave = supplied-remove spare' spare_room' k d is.supplied (last_in ends refl).1 back tables in
      let shelf : IsShelfOf v quota ids' starts' (remove sized_areas k) full room spare' spare_room' = record { arranged = arranged.arranged-remove is.arranged starts' class_in shift up (omega arith) d free; supplied = gave } in
      let state = arranged.heap-remove is.arranged starts' class_in shift up (omega arith) empty in
      let counts = arranged.counts-remove is.arranged starts' class_in shift up (omega arith) in
      record {
        shelf = shelf;
        gives = (λ j. record { version = v; quota = quota; held_ids = ids'; origin = origin; counts = counts j; state = state j }) ∙ ap (λ (t : ShelfMeaning). with_count t e (count_of t e - 1) ids') view;
        fewer = (let a = as_many _ gave.owned in let b = length-remove sized_areas k (last_in ends refl).1 in let n = as_many sized_areas is.supplied.owned in let t = ap (λ (t : ShelfMeaning). length t.held_ids) view in omega arith);
        valid_shelf = calls.is_valid origin shelf;
      }
    where
      quiet : (q : ℕ) → get s.state.live q ≡ None → contains s.state.touched q ≡ false
      quiet q none =
          elim (contains s.state.touched q) as (λ b. contains s.state.touched q ≡ b → b ≡ false) [
            | false ↦ λ h. refl
            | true ↦ λ h. (let used = (calls.valid_s view is).touched_live q h in let gone = ap is_some none in absurd cc)
          ] refl

  pub dropped : {k : ℕ} {p : SizedAreaMeaning} {id : SegmentId} (lengths : Option Lengths) {ids' : List SegmentId} {quota' : ℕ} {origin' : Origin} {starts' : List ℕ} {spare' : ℕ} (spare_room' : ℕ)
      → k ≡ e - 5 → EndsFree s e → p ≡ get_or sized_areas (start_of (k + 1) - 1) p → id ≡ p.identity → version_of lengths ≡ p.version → GivesBack ids ids' id → quota' ≡ quota → origin' ≡ origin
      → spare' ≡ cond (is_some lengths) (spare + 1) spare → spare_room ≤ spare_room' → Unshifts starts starts' k
      → {sized_areas' : List SizedAreaMeaning} → sized_areas' ≡ remove sized_areas (start_of (k + 1) - 1) → Dropped ids' quota' origin' starts' sized_areas' spare' spare_room'
  dropped {k} {p} lengths {ids'} {quota'} {origin'} {starts'} {spare'} spare_room' same ends read id_is version_is back quota_is origin_is valid_shelf bigger shift items =
      let at : ℕ → ℕ = λ x. start_of (x + 1) - 1 in
      let at_same : at k ≡ at (e - 5) = ap at same in
      let in_k = (last_in ends refl).1 in
      let read' : p ≡ get_or sized_areas (at (e - 5)) p = read ∙ ap (λ i. get_or sized_areas i p) at_same in
      let tables = returned v quota (length sized_areas) (length (remove sized_areas (at (e - 5)))) spare spare' spare_room spare_room' lengths is.supplied.tables (length-remove sized_areas (at (e - 5)) in_k)
      (version_is ∙ ap (λ (q : SizedAreaMeaning). q.version) read ∙ last_version ends k p same) valid_shelf bigger in
      let gave : GivesBack ids ids' (get_or sized_areas (at (e - 5)) p).identity = subst (GivesBack ids ids') (id_is ∙ ap (λ (q : SizedAreaMeaning). q.identity) read') back in
      let it = dropped_at ids' starts' spare' spare_room' p ends gave tables (subst (Unshifts starts starts') same shift) in
      subst (λ xs. Dropped ids' quota' origin' starts' xs spare' spare_room') (sym items) (subst (λ x. Dropped ids' quota' origin' starts' (remove sized_areas x) spare' spare_room') (sym at_same)
      (subst (λ x. Dropped ids' x origin' starts' (remove sized_areas (at (e - 5))) spare' spare_room') (sym quota_is)
      (subst (λ x. Dropped ids' quota x starts' (remove sized_areas (at (e - 5))) spare' spare_room') (sym origin_is) it)))

  -- ---- whether the class ends with an empty area

  -- a class with no area is trimmed
  pub none_trimmed : (k : ℕ) → k ≡ e - 5 → start_of (k + 1) ≡ start_of k → IsTrimmed s e
  none_trimmed k same none n is_n = absurd (let c = calls.count_k view is low high same in omega arith)

  pub ends_k : (k : ℕ) (q : SizedAreaMeaning) (b : Bool) → k ≡ e - 5 → (start_of (k + 1) ≡ start_of k → ⊥) → q ≡ get_or sized_areas (start_of (k + 1) - 1) q
      → MatchBool b ((i : ℕ) → get_or q.chunks i None ≡ None) ((i : ℕ) × IsSome (get_or q.chunks i None)) → MatchBool b (EndsFree s e) (IsTrimmed s e)
  ends_k k q b same some read empty =
      let count = calls.count_k view is low high same in
      let up = rising_k k same in
      let a = ap (λ x. start_of x) same in
      let d = ap (λ x. start_of (x + 1)) same in
      let o : ℕ = start_of (k + 1) - 1 - start_of k in
      let st : Stands starts e o (start_of (k + 1) - 1) = record { least = low; most = high; within = omega arith; at = omega arith } in
      elim b as (λ x. MatchBool x ((i : ℕ) → get_or q.chunks i None ≡ None) ((i : ℕ) × IsSome (get_or q.chunks i None)) → MatchBool x (EndsFree s e) (IsTrimmed s e)) [
        | true ↦ λ none. record {
          some = omega arith;
          free = λ n class last. ap (λ (c : ChunkMeaning). c.bytes) (calls.chunk_q view is st read (calls.number_of class (let h : index_of n / per e ≡ o = omega arith in h))) ∙ none (index_of n % per e);
        }
        | false ↦ λ used n is_n.
            let inside : used.0 < per e =
            elim (cases_lt used.0 (per e)) as (λ _. used.0 < per e) [
              | inl l ↦ l
              | inr past ↦ (let gone : is_some (get_or q.chunks used.0 None) ≡ false = ap is_some (get_or_past q.chunks used.0 None (let long = calls.long_q view is st read in omega arith)) in let some = used.1 in absurd cc)
            ] in
            let num = is_number o used.0 low (calls.few_o view is st) inside in
            (number e (o * per e + used.0), ap (λ (c : ChunkMeaning). is_some c.bytes) (calls.chunk_q view is st read num) ∙ used.1, num.exponent, (let x = num.area in omega arith))
      ] empty

  pub table_room_e : (o : Option Lengths) → EndsFree s e → version_of o ≡ v → IsSome o → spare < spare_room
  table_room_e o ends is_v h = table_room v quota (length sized_areas) spare spare_room o is.supplied.tables (some_places ends) is_v h
