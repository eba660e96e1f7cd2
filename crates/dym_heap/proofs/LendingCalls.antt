-- What the calls answer that lend an area.
use Rattle.std.proofs.Common.{◌≡◌, ℕ, zero, suc, ◌+◌, ◌*◌, ◌<◌, ◌≤◌, ◌&&◌, inl, inr, true, false, is_some, Option, Some, None, List, [], ◌++◌, length, get_or, ltb, refl, sym, ap, subst, ◌∙◌, arith, suc-mul}
use Rattle.std.specs.Prelude.{option_map, unwrap_or}
use Rattle.std.specs.List.{flat_map, between, range_with_len}
use Rattle.std.proofs.lemmas.Bool.{cases_lt, lt-ltb, le-ltb}
use Rattle.std.proofs.lemmas.List.{get_or_past}
use Rattle.std.proofs.lemmas.List.Edits.{between_none}
use Rattle.std.proofs.lemmas.Nat.{mul-le}
use Rattle.std.proofs.Math.Nat.{add-mul}
use Rattle.std.specs.FinMap.{get}
use Rattle.std.specs.FinSet.{contains}
use Rattle.dym_base.specs.Numbers.{size, per}
use Rattle.dym_base.specs.Heaps.{Live, Touched, held}
use Rattle.dym_base.specs.declared.command.Version.TheVariants.{One}
use Rattle.dym_bits.specs.Bits.{bit_in}
use Rattle.dym_region.specs.Content.{part_of}
use Rattle.dym_area.specs.Area.{AreaMeaning}
use Rattle.dym_pack.specs.Areas.{area_at, chunks_of, chunk_number, is_used_at, bytes_at}
use Rattle.dym_heap.specs.Meaning.{HeapMeaning}
use Rattle.dym_heap.specs.Shelves.{ShelfMeaning, IsTidy}
use Rattle.dym_heap.specs.SizedAreas.{SizedAreaMeaning, len_of, version_by, place_of, IsMeasured}
use Rattle.dym_heap.specs.AreaViews.{IsAreaOf, IsUsedRun}
use Rattle.dym_heap.proofs.Sizes.{whole_area}
use Rattle.dym_heap.proofs.Tidy.{tidy_held, meaning_of}
use Rattle.dym_heap.proofs.Joins.{between-join, flat-same}
use Rattle.dym_heap.proofs.PlaceSteps.{some_used, used_chunk, mark_of}
use Rattle.dym_heap.proofs.PlaceFacts.{chunk_at_p, set_p}

-- ---- the bits and the bytes of a place, from its area

module _ {area : AreaMeaning} {ls : Option (List ℕ)} {p : SizedAreaMeaning} (v : place_of area ls ≡ p) (m : IsMeasured area ls) where
  pub used_p : (i : ℕ) → bit_in area.used i ≡ is_some (get_or p.chunks i None)
  used_p i = sym (ap is_some (chunk_at_p v m i) ∙ some_used area ls i)

  pub touched_p : (i : ℕ) → bit_in area.dirty i ≡ get_or p.touched i false
  touched_p i = sym (sym (ap (λ (q : SizedAreaMeaning). get_or q.touched i false) v) ∙ mark_of i m.valid)

  len_one : (i : ℕ) → version_by ls ≡ One → len_of area.exponent ls i ≡ size area.exponent
  len_one i one = elim ls as (λ x. version_by x ≡ One → len_of area.exponent x i ≡ size area.exponent) [ None ↦ λ e. refl | Some ns ↦ λ e. cc ] one

  pub run_p : (from count : ℕ) → p.version ≡ One → IsUsedRun p.chunks from count → from * size area.exponent + count * size area.exponent ≤ length area.content
      → part_of area.content (from * size area.exponent) (count * size area.exponent) ≡ flat_map (λ i. unwrap_or (get_or p.chunks i None) []) (range_with_len from count)
  run_p from zero one used fits =
      let z : from * size area.exponent + zero * size area.exponent ≡ from * size area.exponent = omega arith in
      ap (λ b. between (from * size area.exponent) b area.content) z ∙ between_none area.content (from * size area.exponent)
  run_p from (suc n) one used fits =
      let e : ℕ = size area.exponent in
      let more = suc-mul n e in
      let next = add-mul from 1 e in
      let first = used from (omega arith) (omega arith) in
      let version : version_by ls ≡ One = ap (λ (q : SizedAreaMeaning). q.version) v ∙ one in
      let here : get_or p.chunks from None ≡ Some (between (from * e) (from * e + e) area.content) =
      chunk_at_p v m from ∙ used_chunk area ls from (set_p v m from first) ∙ ap (λ k. Some (part_of area.content (from * e) k)) (len_one from version) in
      let rest = run_p (from + 1) n one (λ i low high. used i (omega arith) (omega arith)) (omega arith) in
      sym (between-join (from * e) (from * e + e) (from * e + suc n * e) area.content (omega arith) (omega arith) (omega arith))
      ∙ ap (λ xs. xs ++ between (from * e + e) (from * e + suc n * e) area.content) (sym (ap (λ o. unwrap_or o []) here))
      ∙ ap (λ xs. unwrap_or (get_or p.chunks from None) [] ++ xs)
      ((let a : from * e + e ≡ (from + 1) * e = omega arith in let b : from * e + suc n * e ≡ (from + 1) * e + n * e = omega arith in
      ap (λ x. between x (from * e + suc n * e) area.content) a ∙ ap (λ x. between ((from + 1) * e) x area.content) b) ∙ rest)

-- ---- the answers, from the area that a place is

length_there : (o : Option (List ℕ)) (n : ℕ) → Some n ≡ option_map length o → n ≡ length (unwrap_or o [])
length_there None n e = absurd cc
length_there (Some xs) n e = cc

module _ {live : Live} {touched : Touched} {k : ℕ} {p : SizedAreaMeaning} (is : IsAreaOf live touched k p) where
  pub long_a : length p.chunks ≡ chunks_of live k
  long_a = is.sized_area.whole ∙ ap per is.exponent

  pub used_a : (i : ℕ) → is_some (get_or p.chunks i None) ≡ (ltb i (chunks_of live k) && is_used_at live k i)
  used_a i =
      let long = long_a in
      elim (cases_lt i (length p.chunks)) as (λ _. is_some (get_or p.chunks i None) ≡ (ltb i (chunks_of live k) && is_used_at live k i)) [
        | inl l ↦ ap is_some (is.chunk i l) ∙ sym (ap (λ b. b && is_used_at live k i) (lt-ltb i (chunks_of live k) (omega arith)))
        | inr past ↦ ap is_some (get_or_past p.chunks i None past) ∙ sym (ap (λ b. b && is_used_at live k i) (le-ltb i (chunks_of live k) (omega arith)))
      ]

  pub touched_a : (i : ℕ) → get_or p.touched i false ≡ (ltb i (chunks_of live k) && contains touched (chunk_number live k i))
  touched_a i =
      let long = long_a in
      let marks = is.sized_area.marks in
      elim (cases_lt i (length p.chunks)) as (λ _. get_or p.touched i false ≡ (ltb i (chunks_of live k) && contains touched (chunk_number live k i))) [
        | inl l ↦ is.mark i l ∙ sym (ap (λ b. b && contains touched (chunk_number live k i)) (lt-ltb i (chunks_of live k) (omega arith)))
        | inr past ↦ get_or_past p.touched i false (omega arith) ∙ sym (ap (λ b. b && contains touched (chunk_number live k i)) (le-ltb i (chunks_of live k) (omega arith)))
      ]

  pub inside_a : (i : ℕ) → i < chunks_of live k → i < length p.chunks
  inside_a i l = let long = long_a in omega arith

  pub is_used_a : (i : ℕ) → i < chunks_of live k → is_some (get_or p.chunks i None) ≡ is_used_at live k i
  is_used_a i l = ap is_some (is.chunk i (inside_a i l))

  pub is_touched_a : (i : ℕ) → i < chunks_of live k → get_or p.touched i false ≡ contains touched (chunk_number live k i)
  is_touched_a i l = is.mark i (inside_a i l)

  pub len_a : (i n : ℕ) → i < chunks_of live k → Some n ≡ option_map length (get_or p.chunks i None) → n ≡ length (bytes_at live k i)
  len_a i n l e = length_there (get live (chunk_number live k i)) n (e ∙ ap (option_map length) (is.chunk i (inside_a i l)))

  pub bytes_a : (i : ℕ) (out : List ℕ) → i < chunks_of live k → Some out ≡ get_or p.chunks i None → out ≡ bytes_at live k i
  bytes_a i out l e = ap (λ o. unwrap_or o []) (e ∙ is.chunk i (inside_a i l))

  -- ---- a run

  pub run_fits : (from count : ℕ) → from + count ≤ chunks_of live k → from * size p.exponent + count * size p.exponent ≤ 65536
  run_fits from count inside =
      let e : ℕ = (area_at live k).exponent in
      let same : from * size p.exponent ≡ from * size e = ap (λ x. from * size x) is.exponent in
      let long : count * size p.exponent ≡ count * size e = ap (λ x. count * size x) is.exponent in
      let high : e ≤ 16 = let m = is.sized_area.most in let x = is.exponent in omega arith in
      let whole = whole_area high in
      let m = mul-le (from + count) (size e) (per e) (size e) inside (omega arith) in
      let sum = add-mul from count (size e) in
      omega arith

  pub run_used : (from count : ℕ) → from + count ≤ chunks_of live k → ((i : ℕ) → from ≤ i → i < from + count → is_used_at live k i ≡ true) → IsUsedRun p.chunks from count
  run_used from count inside used i low high = is_used_a i (omega arith) ∙ used i low high

  pub run_a : (from count : ℕ) → from + count ≤ chunks_of live k → flat_map (λ i. unwrap_or (get_or p.chunks i None) []) (range_with_len from count) ≡ flat_map (bytes_at live k) (range_with_len from count)
  run_a from count inside = flat-same (λ i. unwrap_or (get_or p.chunks i None) []) (bytes_at live k) from count (λ i low high. ap (λ o. unwrap_or o []) (is.chunk i (inside_a i (omega arith))))

-- ---- the areas of a heap

module _ {s : ShelfMeaning} {applied : ℕ} {h : HeapMeaning} (view : meaning_of s applied ≡ h) (tidy : IsTidy s) where
  pub held_h : length s.held_ids ≡ held h.state.live
  held_h = sym (tidy_held tidy) ∙ ap (λ (x : HeapMeaning). held x.state.live) view

  pub within_h : {k : ℕ} → k < held h.state.live → k < length s.held_ids
  within_h l = let n = held_h in omega arith

  pub area_h : {k : ℕ} {p : SizedAreaMeaning} → IsAreaOf s.state.live s.state.touched k p → IsAreaOf h.state.live h.state.touched k p
  area_h {k} {p} is = subst (λ (x : HeapMeaning). IsAreaOf x.state.live x.state.touched k p) view is

  pub version_h : (p : SizedAreaMeaning) → p.version ≡ s.version → p.version ≡ h.version
  version_h p e = e ∙ ap (λ (x : HeapMeaning). x.version) view
