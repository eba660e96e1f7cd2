-- The live chunks that have a byte in a part of the region, from chunk to chunk.
use Rattle.std.proofs.Common.{◌≡◌, ℕ, ◌+◌, ◌-◌, ◌*◌, ◌/◌, ◌%◌, ◌^◌, max, min, ◌<◌, ◌≤◌, ◌⊎◌, ◌&&◌, ◌||◌, ◌==◌, inl, inr, Bool, true, false, ltb, cond, is_some, Option, Some, None, List, [], length, MatchOption, refl, sym, ap, subst, ◌∙◌, arith}
use Rattle.std.specs.Ordering.{nat_cmp, eq_by_cmp}
use Rattle.std.specs.Cmp.{nat_cmp_total, unsigned_tied}
use Rattle.std.specs.FinMap.{get, insert, get-insert, keys, contains_key-keys, same_map, nat_cmp-IsAntisymmetric}
use Rattle.std.specs.FinSet as set
use Rattle.std.specs.FinSet.{contains, contains-insert, from_list, contains-from_list, union, contains-union, same_set}
use Rattle.std.specs.List.{filter}
use Rattle.std.specs.Prelude.{option_map, unwrap_or}
use Rattle.std.proofs.lemmas.Bool.{cases_lt, cases_eq, lt-ltb, le-ltb, ltb-true, ltb-false, eqb-true, eq-eqb, ne_eqb}
use Rattle.std.proofs.lemmas.Map.Views.{any-filter_same}
use Rattle.std.proofs.lemmas.Nat.{mod_below, mul-le, pow_pos, div-mul-add, mod-mul-add}
use Rattle.dym_base.specs.Numbers.{number, size, per, exponent_of, index_of}
use Rattle.dym_base.specs.Heaps.{Live, HeapState}
use Rattle.dym_base.specs.HeapStep.{key, with_chunk}
use Rattle.dym_base.specs.declared.handle.Handle.{Handle}
use Rattle.dym_heap.specs.Addresses.{chunk_offset, LiesAt}
use Rattle.dym_heap.specs.Chunks.{put}
use Rattle.dym_heap.specs.Fetches.{ChunkMeaning, heap_chunk}
use Rattle.dym_heap.specs.Meaning.{HeapMeaning}
use Rattle.dym_heap.specs.Shelves.{ShelfMeaning, FitsIn, IsValidShelf, IsTidy, with_put}
use Rattle.dym_heap.specs.Touches.{has_byte_in, is_hit, touched_besides, touched_in, with_touch}
use Rattle.dym_heap.proofs.Offsets.{parts_at, index_of_parts, number_of, place_of_live}
use Rattle.dym_heap.proofs.Chunks.{touched_is}
use Rattle.dym_heap.proofs.HandleSteps.{Wrote, wrote}
use Rattle.dym_heap.proofs.Sizes.{chunk_fits}
use Rattle.dym_heap.proofs.Tidy.{meaning_of}

-- ---- two chunks never share a byte

pub one_chunk : {quota offset e i at e' i' at' : ℕ} → LiesAt quota e i at offset → LiesAt quota e' i' at' offset → (e ≡ e') × (i ≡ i')
one_chunk {quota} {offset} {e} {i} {at} {e'} {i'} {at'} lies lies' =
    let parts = parts_at lies in
    let parts' = parts_at lies' in
    let low = lies.least in
    let low' = lies'.least in
    let same : e - 5 ≡ e' - 5 = sym parts.class ∙ parts'.class in
    let class : e ≡ e' = omega (arith, same, low, low') in
    let area : i / per e ≡ i' / per e' = sym parts.area ∙ parts'.area in
    let chunk : i % per e ≡ i' % per e' = sym parts.chunk ∙ ap (λ n. (offset % 65536) / size n) class ∙ parts'.chunk in (
      class,
      sym (index_of_parts e i) ∙ (λ j. area j * per (class j) + chunk j) ∙ index_of_parts e' i',
    )

-- a chunk of a class, in one of its areas
abbrev pub IsPlace : ℕ → ℕ → ℕ → Type 0
IsPlace quota e i = (5 ≤ e) × (e ≤ 16) × (i / per e < quota)

abbrev pub start_at : ℕ → ℕ → ℕ → ℕ
start_at quota e i = chunk_offset quota (record { exp = e; index = i })

byte_of : (quota e i offset : ℕ) → IsPlace quota e i → start_at quota e i ≤ offset → offset < start_at quota e i + size e → LiesAt quota e i (offset - start_at quota e i) offset
byte_of quota e i offset place from to = record {
  least = place.0;
  most = place.1;
  area = place.2;
  byte = omega (arith, from, to);
  is = omega (arith, from);
}

pub apart : (quota e i e' i' : ℕ) → IsPlace quota e i → IsPlace quota e' i' → ((e ≡ e') × (i ≡ i') → ⊥)
    → (start_at quota e i + size e ≤ start_at quota e' i') ⊎ (start_at quota e' i' + size e' ≤ start_at quota e i)
apart quota e i e' i' place place' other =
    let s : ℕ = start_at quota e i in
    let s' : ℕ = start_at quota e' i' in
    elim (cases_lt s' (s + size e)) as (λ _. (s + size e ≤ s') ⊎ (s' + size e' ≤ s)) [
      | inr far ↦ inl far
      | inl near ↦ elim (cases_lt s (s' + size e')) as (λ _. (s + size e ≤ s') ⊎ (s' + size e' ≤ s)) [
        | inr far ↦ inr far
        | inl near' ↦ elim (cases_lt s s') as (λ _. (s + size e ≤ s') ⊎ (s' + size e' ≤ s)) [
          | inl before ↦ absurd (other (one_chunk (byte_of quota e i s' place (omega arith) near) (byte_of quota e' i' s' place' (omega arith) (omega (arith, pow_pos e')))))
          | inr behind ↦ absurd (other (one_chunk (byte_of quota e i s place (omega arith) (omega (arith, pow_pos e))) (byte_of quota e' i' s place' behind near')))
        ]
      ]
    ]

-- ---- from one place to the next

-- the ranges from `from` up to `at`, and from `start` on for n bytes, have a byte in common
abbrev pub meets : ℕ → ℕ → ℕ → ℕ → Bool
meets from at start n = ltb (max from start) (min at (start + n))

-- the second range ends where the first one does, or before
pub meets_less : (from at at' start n : ℕ) → start + n ≤ at → at ≤ at' → meets from at' start n ≡ meets from at start n
meets_less from at at' start n past more =
    let a : min at' (start + n) ≡ start + n = omega (arith, past, more) in
    let b : min at (start + n) ≡ start + n = omega (arith, past) in
    ap (ltb (max from start)) (a ∙ sym b)

-- it begins where the first one has ended
pub meets_none : (from at start n : ℕ) → at ≤ start → meets from at start n ≡ false
meets_none from at start n past = le-ltb (max from start) (min at (start + n)) (omega (arith, past))

-- it has no byte
pub meets_empty : (from at start : ℕ) {n : ℕ} → n ≡ 0 → meets from at start n ≡ false
meets_empty from at start {n} none = le-ltb (max from start) (min at (start + n)) (omega (arith, none))

pub meets_some : (from at start n : ℕ) → from < at → start < at → from < start + n → 0 < n → meets from at start n ≡ true
meets_some from at start n a b c d = lt-ltb (max from start) (min at (start + n)) (omega (arith, a, b, c, d))

no_bytes : (o : Option (List ℕ)) → is_some o ≡ false → length (unwrap_or o []) ≡ 0
no_bytes None none = refl
no_bytes (Some bytes) none = absurd (let e = none in cc)

and_live : (live b : Bool) → (live ≡ false → b ≡ false) → (b && live) ≡ b
and_live true true none = refl
and_live true false none = refl
and_live false b none = (let e = none refl in ap (λ x. x && false) e ∙ sym e)

and_false : (b : Bool) → (b && false) ≡ false
and_false true = refl
and_false false = refl

or_false : (b : Bool) → b ≡ (b || false)
or_false true = refl
or_false false = refl

or_true : (b : Bool) → true ≡ (b || true)
or_true true = refl
or_true false = refl

-- a step from `at` to `next`, both of them in one chunk or at its end, meets that chunk where it has a byte `b` at `at`, and no other
pub step_here : {from at next : ℕ} (start : ℕ) {n b : ℕ} → from ≤ at → at < next → start + b ≡ at → (hit : Bool) → (hit ≡ true → b < n) → (hit ≡ false → n ≤ b) → meets from next start n ≡ (meets from at start n || hit)
step_here {from} {at} {next} start {n} low up is true hits misses = meets_some from next start n (omega (arith, low, up)) (omega (arith, is, up)) (let y = hits refl in omega (arith, low, is, y)) (let y = hits refl in omega (arith, y)) ∙ or_true (meets from at start n)
step_here {from} {at} {next} start {n} low up is false hits misses = meets_less from at next start n (let y = misses refl in omega (arith, is, y)) (omega (arith, up)) ∙ or_false (meets from at start n)

pub step_other : (from at next start n start' n' b : ℕ) → start' + b ≡ at → at < next → next ≤ start' + n' → (start + n ≤ start') ⊎ (start' + n' ≤ start) → meets from next start n ≡ (meets from at start n || false)
step_other from at next start n start' n' b is up within (inl before) = meets_less from at next start n (omega (arith, is, before)) (omega (arith, up)) ∙ or_false (meets from at start n)
step_other from at next start n start' n' b is up within (inr behind) = meets_none from next start n (omega (arith, within, behind)) ∙ sym (ap (λ x. x || false) (meets_none from at start n (omega (arith, up, within, behind))))

-- ---- the chunks of a heap

-- the end of the last segment
abbrev pub region_end : ℕ → ℕ
region_end quota = 12 * quota * 65536

pub ends_within : (quota e i : ℕ) → IsPlace quota e i → start_at quota e i + size e ≤ region_end quota
ends_within quota e i place =
    let low = place.0 in
    let high = place.1 in
    let area = place.2 in
    let fits = chunk_fits e (i % per e) high (mod_below i (per e) (pow_pos (16 - e))) in
    let below = mul-le (e - 5) quota 11 quota (omega (arith, high)) (omega arith) in
    omega (arith, fits, below, area)

abbrev pub bytes_at : Live → ℕ → List ℕ
bytes_at live k = unwrap_or (get live k) []

-- a live chunk stands at its place, and a dead one has no byte
pub data IsSeen (quota : ℕ) (live : Live) (k : ℕ) : Type 0 where
  dead : length (bytes_at live k) ≡ 0 → IsSeen quota live k
  there : IsPlace quota (exponent_of k) (index_of k) → length (bytes_at live k) ≤ size (exponent_of k) → IsSeen quota live k

pub seen : {s : ShelfMeaning} → IsTidy s → (k : ℕ) → IsSeen s.quota s.state.live k
seen {s} tidy k =
    elim (get s.state.live k) as (λ o. get s.state.live k ≡ o → IsSeen s.quota s.state.live k) [
      | None ↦ λ is. dead (ap (λ o. length (unwrap_or o [])) is)
      | Some bytes ↦ λ is.
          let place = place_of_live s tidy k bytes is in
          there (place.least, place.most, place.area) (subst (λ xs. length xs ≤ size (exponent_of k)) (sym (ap (λ o. unwrap_or o []) is)) place.fits)
    ] refl

-- all has been met that lies before the region's end
pub met_all : {quota : ℕ} {live : Live} (from at end : ℕ) {k : ℕ} → region_end quota ≤ at → at ≤ end → IsSeen quota live k → has_byte_in quota live from end k ≡ has_byte_in quota live from at k
met_all from at end past more (dead none) = meets_empty from end _ none ∙ sym (meets_empty from at _ none)
met_all {quota} {live} from at end {k} past more (there place fits) =
    meets_less from at end _ (length (bytes_at live k)) (let e = ends_within quota (exponent_of k) (index_of k) place in omega (arith, e, fits, past)) more

hit_no : (a : Bool) (n at : ℕ) → n ≡ 0 → (a && ltb at n) ≡ false
hit_no true n at none = le-ltb at n (omega (arith, none))
hit_no false n at none = refl

shorter : (start n size start' size' : ℕ) → n ≤ size → (start + size ≤ start') ⊎ (start' + size' ≤ start) → (start + n ≤ start') ⊎ (start' + size' ≤ start)
shorter start n size start' size' fits (inl before) = inl (omega (arith, fits, before))
shorter start n size start' size' fits (inr behind) = inr behind

pub met_step : {quota : ℕ} {live : Live} (from : ℕ) {at : ℕ} (next : ℕ) {k : ℕ} (hd : Handle) {b : ℕ} → hd.index < 2 ^ 32 → LiesAt quota hd.exp hd.index b at → from ≤ at → at < next → next + b ≤ at + size hd.exp → IsSeen quota live k
    → has_byte_in quota live from next k ≡ (has_byte_in quota live from at k || is_hit live hd b k)
met_step {quota} {live} from {at} next {k} hd {b} small lies low up within (dead none) =
    meets_empty from next _ none ∙ sym (λ j. meets_empty from at (start_at quota (exponent_of k) (index_of k)) none j || hit_no (k == key hd) (length (bytes_at live k)) b none j)
met_step {quota} {live} from {at} next {k} hd {b} small lies low up within (there place fits) =
    let n : ℕ = length (bytes_at live k) in
    let start : ℕ = start_at quota (exponent_of k) (index_of k) in
    let is : start_at quota hd.exp hd.index + b ≡ at = lies.is in
    elim (cases_eq k (key hd)) as (λ _. meets from next start n ≡ (meets from at start n || ((k == key hd) && ltb b n))) [
      | inl same ↦
          let class : exponent_of k ≡ hd.exp = ap exponent_of same ∙ div-mul-add hd.exp (2 ^ 32) hd.index small in
          let index : index_of k ≡ hd.index = ap index_of same ∙ mod-mul-add hd.exp (2 ^ 32) hd.index small in
          let here : start ≡ start_at quota hd.exp hd.index = λ j. start_at quota (class j) (index j) in
          step_here start low up (ap (λ x. x + b) here ∙ is) (ltb b n) (ltb-true b n) (ltb-false b n)
          ∙ ap (λ x. meets from at start n || (x && ltb b n)) (sym (eq-eqb k (key hd) same))
      | inr other ↦
          let place' : IsPlace quota hd.exp hd.index = (lies.least, lies.most, lies.area) in
          let far = apart quota (exponent_of k) (index_of k) hd.exp hd.index place place' (λ both. other (sym (number_of k) ∙ (λ j. number (both.0 j) (both.1 j)))) in
          step_other from at next start n (start_at quota hd.exp hd.index) (size hd.exp) b is up (omega (arith, within, is)) (shorter start n (size (exponent_of k)) _ (size hd.exp) fits far)
          ∙ ap (λ x. meets from at start n || (x && ltb b n)) (sym (ne_eqb k (key hd) other))
    ]

-- before the first step nothing is met
pub met_none : (quota : ℕ) (live : Live) (from k : ℕ) → has_byte_in quota live from from k ≡ false
met_none quota live from k = le-ltb (max from (start_at quota (exponent_of k) (index_of k))) (min from (start_at quota (exponent_of k) (index_of k) + length (bytes_at live k))) (omega arith)

-- ---- chunk by chunk

or_assoc : (a b c : Bool) → ((a || b) || c) ≡ (a || (b || c))
or_assoc true b c = refl
or_assoc false b c = refl

pub both_touched : (a b : Bool) (chunk : ChunkMeaning) → touched_besides b (touched_besides a chunk) ≡ touched_besides (a || b) chunk
both_touched a b chunk = λ j. record { bytes = chunk.bytes; touched = or_assoc chunk.touched a b j }

pub none_touched : (b : Bool) (chunk : ChunkMeaning) → b ≡ false → chunk ≡ touched_besides b chunk
none_touched b chunk none = (λ j. record { bytes = chunk.bytes; touched = or_false chunk.touched j }) ∙ ap (λ x. touched_besides x chunk) (sym none)

-- where each chunk keeps its bytes what is live stays
pub same_live : (old new : HeapState) (f : ℕ → Bool) → ((k : ℕ) → heap_chunk new k ≡ touched_besides (f k) (heap_chunk old k)) → new.live ≡ old.live
same_live old new f each = same_map nat_cmp_total nat_cmp-IsAntisymmetric new.live old.live (λ k. ap (λ (x : ChunkMeaning). x.bytes) (each k))

dead_none : (quota : ℕ) (live : Live) (from end k : ℕ) → is_some (get live k) ≡ false → has_byte_in quota live from end k ≡ false
dead_none quota live from end k gone = meets_empty from end _ (no_bytes (get live k) gone)

contains-met : (quota : ℕ) (live : Live) (from end q : ℕ) → contains (from_list {R = nat_cmp} (filter (has_byte_in quota live from end) (keys live))) q ≡ has_byte_in quota live from end q
contains-met quota live from end q =
    let p : ℕ → Bool = has_byte_in quota live from end in
    contains-from_list nat_cmp_total (filter p (keys live)) q
    ∙ any-filter_same (eq_by_cmp nat_cmp q) p (p q) (λ x tied. ap p (sym (eqb-true q x (sym (unsigned_tied q x) ∙ tied)))) (keys live)
    ∙ ap (λ b. p q && b) (sym (contains_key-keys live q))
    ∙ and_live (is_some (get live q)) (p q) (dead_none quota live from end q)

pub touched_state : (quota from end : ℕ) (old new : HeapState) → ((k : ℕ) → heap_chunk new k ≡ touched_besides (has_byte_in quota old.live from end k) (heap_chunk old k)) → new ≡ touched_in quota from end old
touched_state quota from end old new each =
    let lives : new.live ≡ old.live = same_live old new (has_byte_in quota old.live from end) each in
    let marks : new.touched ≡ union old.touched (from_list (filter (has_byte_in quota old.live from end) (keys old.live))) =
    same_set nat_cmp_total nat_cmp-IsAntisymmetric new.touched (union old.touched (from_list (filter (has_byte_in quota old.live from end) (keys old.live)))) (λ q.
    ap (λ (x : ChunkMeaning). x.touched) (each q)
    ∙ ap (λ b. contains old.touched q || b) (sym (contains-met quota old.live from end q))
    ∙ sym (contains-union nat_cmp_total old.touched (from_list (filter (has_byte_in quota old.live from end) (keys old.live))) q)) in
    λ j. record { live = lives j; touched = marks j }

-- ---- one chunk is touched

miss : (live : Live) (hd : Handle) (at k : ℕ) → length (bytes_at live (key hd)) ≤ at → is_hit live hd at k ≡ false
miss live hd at k short =
    elim (cases_eq k (key hd)) as (λ _. ((k == key hd) && ltb at (length (bytes_at live k))) ≡ false) [
      | inl same ↦ ap (λ b. (k == key hd) && b) (le-ltb at (length (bytes_at live k)) (omega (arith, short, ap (λ n. length (bytes_at live n)) same))) ∙ and_false (k == key hd)
      | inr other ↦ ap (λ b. b && ltb at (length (bytes_at live k))) (ne_eqb k (key hd) other)
    ]

len_none : (o : Option (List ℕ)) → None ≡ option_map (length {A = ℕ}) o → length (unwrap_or o []) ≡ 0
len_none None is = refl
len_none (Some bytes) is = absurd (let e = is in cc)

len_some : (o : Option (List ℕ)) (len : ℕ) → Some len ≡ option_map (length {A = ℕ}) o → length (unwrap_or o []) ≡ len
len_some None len is = absurd (let e = is in cc)
len_some (Some bytes) len is = sym (ap (λ x. unwrap_or x 0) is)

-- a chunk that isn't live, or has no such byte, is no hit
pub missed : (st : HeapState) (hd : Handle) (at k : ℕ) → length (bytes_at st.live (key hd)) ≤ at → heap_chunk st k ≡ touched_besides (is_hit st.live hd at k) (heap_chunk st k)
missed st hd at k short = none_touched (is_hit st.live hd at k) (heap_chunk st k) (miss st.live hd at k short)

-- a chunk whose length is not 0
pub some_bytes : (o got : Option (List ℕ)) (n : ℕ) → Some n ≡ option_map length got → got ≡ o → (n ≡ 0 → ⊥) → FitsIn o 1
some_bytes None got n is same other = absurd (let e = is ∙ ap (option_map length) same in cc)
some_bytes (Some old) got n is same other = (let e : n ≡ length old = ap (λ x. unwrap_or x 0) (is ∙ ap (option_map length) same) in let z : n ≡ 0 → ⊥ = other in omega (arith, e, z))

pub missed_none : (st : HeapState) (hd : Handle) (at k : ℕ) → None ≡ option_map (length {A = ℕ}) (get st.live (key hd)) → heap_chunk st k ≡ touched_besides (is_hit st.live hd at k) (heap_chunk st k)
missed_none st hd at k none = missed st hd at k (omega (arith, len_none (get st.live (key hd)) none))

pub missed_short : (st : HeapState) (hd : Handle) (at len k : ℕ) → Some len ≡ option_map (length {A = ℕ}) (get st.live (key hd)) → len ≤ at → heap_chunk st k ≡ touched_besides (is_hit st.live hd at k) (heap_chunk st k)
missed_short st hd at len k long past = missed st hd at k (omega (arith, len_some (get st.live (key hd)) len long, past))

hit_now : (st : HeapState) (hd : Handle) (at : ℕ) (bytes : List ℕ) → get st.live (key hd) ≡ Some bytes → at < length bytes → (k : ℕ) → heap_chunk (with_chunk st (key hd) bytes) k ≡ touched_besides (is_hit st.live hd at k) (heap_chunk st k)
hit_now st hd at bytes live long k =
    let got : get (insert st.live (key hd) bytes) k ≡ cond (k == key hd) (Some bytes) (get st.live k) = get-insert nat_cmp_total st.live (key hd) bytes k ∙ ap (λ b. cond b (Some bytes) (get st.live k)) (unsigned_tied k (key hd)) in
    let mark : contains (set.insert st.touched (key hd)) k ≡ ((k == key hd) || contains st.touched k) = contains-insert nat_cmp_total st.touched (key hd) k ∙ ap (λ b. b || contains st.touched k) (unsigned_tied k (key hd)) in
    elim (cases_eq k (key hd)) as (λ _. heap_chunk (with_chunk st (key hd) bytes) k ≡ touched_besides (is_hit st.live hd at k) (heap_chunk st k)) [
      | inl same ↦
          let equal : (k == key hd) ≡ true = eq-eqb k (key hd) same in
          let there : get st.live k ≡ Some bytes = ap (get st.live) same ∙ live in
          let hit : is_hit st.live hd at k ≡ true =
          (λ j. equal j && ltb at (length (unwrap_or (there j) []))) ∙ lt-ltb at (length bytes) long in
          λ j. record {
            bytes = (got ∙ ap (λ b. cond b (Some bytes) (get st.live k)) equal ∙ sym there) j;
            touched = (mark ∙ ap (λ b. b || contains st.touched k) equal ∙ or_true (contains st.touched k) ∙ ap (λ b. contains st.touched k || b) (sym hit)) j;
          }
      | inr other ↦
          let unequal : (k == key hd) ≡ false = ne_eqb k (key hd) other in
          let miss_it : is_hit st.live hd at k ≡ false = ap (λ b. b && ltb at (length (bytes_at st.live k))) unequal in
          λ j. record {
            bytes = (got ∙ ap (λ b. cond b (Some bytes) (get st.live k)) unequal) j;
            touched = (mark ∙ ap (λ b. b || contains st.touched k) unequal ∙ or_false (contains st.touched k) ∙ ap (λ b. contains st.touched k || b) (sym miss_it)) j;
          }
    ]

pub record Touches (s t : ShelfMeaning) (hd : Handle) (at : ℕ) : Type 0 where
  pub touched : (k : ℕ) → heap_chunk t.state k ≡ touched_besides (is_hit s.state.live hd at k) (heap_chunk s.state k)
  pub same : t ≡ record s { state = t.state }
  pub tidy : IsTidy t

pub touches : {s t : ShelfMeaning} (hd : Handle) (at len : ℕ) → IsTidy s → IsValidShelf t → Some len ≡ option_map (length {A = ℕ}) (get s.state.live (key hd)) → at < len
    → MatchOption (get s.state.live (key hd)) ⊥ (λ bytes. t ≡ with_put s (key hd) (Some bytes) true) → Touches s t hd at
touches {s} {t} hd at len tidy valid long below put =
    let w = wrote (λ bytes. bytes) tidy valid put in
    let n : length w.old ≡ len = sym (ap (λ o. length (unwrap_or o [])) w.was) ∙ len_some (get s.state.live (key hd)) len long in
    record {
      touched = λ k. ap (λ (x : ShelfMeaning). heap_chunk x.state k) w.is ∙ hit_now s.state hd at w.old w.was (omega (arith, n, below)) k;
      same = w.is ∙ sym (ap (λ (x : ShelfMeaning). record s { state = x.state }) w.is);
      tidy = w.tidy;
    }

-- the heap is that with the chunk touched
pub touched_now : {s t : ShelfMeaning} {applied : ℕ} {heap : HeapMeaning} → meaning_of s applied ≡ heap → {k : ℕ} → Wrote s t k (λ bytes. bytes)
    → meaning_of t applied ≡ record heap { state = with_touch heap.state k }
touched_now {s} {t} {applied} {heap} view {k} w =
    ap (λ (x : ShelfMeaning). meaning_of x applied) w.is
    ∙ ap (λ (st : HeapState). record (meaning_of s applied) { state = st })
    (ap (λ o. put s.state k (record { bytes = o; touched = true })) (sym w.was) ∙ sym (touched_is s.state k))
    ∙ ap (λ (x : HeapMeaning). record x { state = with_touch x.state k }) view

-- ---- from chunk to chunk

abbrev pub Met : ℕ → HeapState → HeapState → ℕ → ℕ → Type 0
Met quota old new from at = (k : ℕ) → heap_chunk new k ≡ touched_besides (has_byte_in quota old.live from at k) (heap_chunk old k)

pub met_first : (quota : ℕ) (st : HeapState) (from : ℕ) → Met quota st st from from
met_first quota st from k = none_touched (has_byte_in quota st.live from from k) (heap_chunk st k) (met_none quota st.live from k)

pub met_next : {quota : ℕ} (old mid new : HeapState) (from : ℕ) {at : ℕ} (next : ℕ) (hd : Handle) {b : ℕ} → hd.index < 2 ^ 32 → LiesAt quota hd.exp hd.index b at → from ≤ at → at < next → next + b ≤ at + size hd.exp → ((k : ℕ) → IsSeen quota old.live k)
    → Met quota old mid from at → ((k : ℕ) → heap_chunk new k ≡ touched_besides (is_hit mid.live hd b k) (heap_chunk mid k)) → Met quota old new from next
met_next {quota} old mid new from {at} next hd {b} small lies low up within places met step k =
    let lives : mid.live ≡ old.live = same_live old mid (has_byte_in quota old.live from at) met in
    step k
    ∙ ap (λ l. touched_besides (is_hit l hd b k) (heap_chunk mid k)) lives
    ∙ ap (touched_besides (is_hit old.live hd b k)) (met k)
    ∙ both_touched (has_byte_in quota old.live from at k) (is_hit old.live hd b k) (heap_chunk old k)
    ∙ ap (λ x. touched_besides x (heap_chunk old k)) (sym (met_step from next hd small lies low up within (places k)))

pub met_past : (quota : ℕ) (old new : HeapState) (from at end : ℕ) → region_end quota ≤ at → at ≤ end → ((k : ℕ) → IsSeen quota old.live k) → Met quota old new from at → Met quota old new from end
met_past quota old new from at end past more places met k = met k ∙ ap (λ x. touched_besides x (heap_chunk old k)) (sym (met_all from at end past more (places k)))

-- an end past the region is as good as any other
pub met_far : {quota : ℕ} {live : Live} (from : ℕ) {end end' k : ℕ} → (end ≡ end') ⊎ (region_end quota ≤ end) → end ≤ end' → IsSeen quota live k → has_byte_in quota live from end k ≡ has_byte_in quota live from end' k
met_far {quota} {live} from {k} (inl same) more place = ap (λ n. has_byte_in quota live from n k) same
met_far {quota} {live} from {end} {end'} {k} (inr past) more place = sym (met_all from end end' past more place)

pub cut_end : (quota sum end : ℕ) → quota ≤ 1024 → end ≡ min sum 18446744073709551615 → (end ≡ sum) ⊎ (region_end quota ≤ end)
cut_end quota sum end most is =
    elim (cases_lt sum 18446744073709551615) as (λ _. (end ≡ sum) ⊎ (region_end quota ≤ end)) [
      | inl small ↦ inl (omega (arith, is, small))
      | inr great ↦ inr (omega (arith, is, great, most))
    ]
