-- Where the areas of a shelf stand, and the heap that they are.
use Rattle.std.proofs.Common.{◌≡◌, ℕ, zero, suc, ◌+◌, ◌-◌, ◌*◌, ◌/◌, ◌%◌, ◌^◌, ◌<◌, ◌≤◌, inl, inr, Bool, true, false, ◌&&◌, ltb, leb, List, length, get_or, refl, sym, ap, subst, ◌∙◌, arith, add-zero}
use Rattle.std.proofs.lemmas.Bool.{cases_lt, cond-true, cond-false, lt-leb, le-leb, lt-ltb, le-ltb}
use Rattle.std.proofs.lemmas.List.{get_or_past, get_or_default}
use Rattle.std.proofs.lemmas.Nat.{div-mul-add, mod-mul-add, row_fits}
use Rattle.dym_base.specs.Numbers.{per, number, exponent_of, index_of}
use Rattle.dym_base.specs.declared.command.Version.{Version}
use Rattle.dym_heap.specs.Chunks.{heap_chunk, no_chunk}
use Rattle.dym_heap.specs.Fetches.{area_chunk}
use Rattle.dym_heap.specs.SizedAreas.{SizedAreaMeaning}
use Rattle.dym_heap.specs.Arrangement.{IsPlaced, IsArranged, place_of_number, is_placed, no_area, chunk_among, heap_among}
use Rattle.dym_heap.proofs.Sizes.{per_fits}
use Rattle.dym_heap.proofs.Chunks.{heap_at}

-- ---- starts

module _ {v : Version} {starts : List ℕ} {sized_areas : List SizedAreaMeaning} {full : List (List Bool)} where
  pub starts_mono : (c n : ℕ) → IsArranged v starts sized_areas full → c + n ≤ 12 → get_or starts c 0 ≤ get_or starts (c + n) 0
  starts_mono c zero is l = let e : get_or starts c 0 ≡ get_or starts (c + zero) 0 = ap (λ k. get_or starts k 0) (sym (add-zero c)) in omega arith
  starts_mono c (suc n) is l =
      let before = starts_mono c n is (omega arith) in
      let step = is.rising (c + n) (omega arith) in
      let e : get_or starts (c + n + 1) 0 ≡ get_or starts (c + suc n) 0 = ap (λ k. get_or starts k 0) (let h : c + n + 1 ≡ c + suc n = omega arith in h) in
      omega arith

  -- starts rise from any class to a later one
  pub starts_upto : (c d : ℕ) → IsArranged v starts sized_areas full → c ≤ d → d ≤ 12 → get_or starts c 0 ≤ get_or starts d 0
  starts_upto c d is l most =
      let up = starts_mono c (d - c) is (omega arith) in
      let e : get_or starts (c + (d - c)) 0 ≡ get_or starts d 0 = ap (λ k. get_or starts k 0) (let h : c + (d - c) ≡ d = omega arith in h) in
      omega arith

  pub class_end : {c : ℕ} → IsArranged v starts sized_areas full → c < 12 → get_or starts (c + 1) 0 ≤ length sized_areas
  class_end {c} is l = let up = starts_upto (c + 1) 12 is (omega arith) (omega arith) in let last = is.last in omega arith

-- ---- the place of a number

-- area o of class e stands at place k
pub record Stands (starts : List ℕ) (e o k : ℕ) : Type 0 where
  pub least : 5 ≤ e
  pub most : e ≤ 16
  pub within : get_or starts (e - 5) 0 + o < get_or starts (e - 5 + 1) 0
  pub at : k ≡ get_or starts (e - 5) 0 + o

-- number q lies in an area, or in none
abbrev pub Inside : List ℕ → ℕ → Type 0
Inside starts q = Stands starts (exponent_of q) (index_of q / per (exponent_of q)) (place_of_number starts q)

pub data Lies (starts : List ℕ) (q : ℕ) : Type 0 where
  outside : (Inside starts q → ⊥) → ((sized_areas : List SizedAreaMeaning) → chunk_among starts sized_areas q ≡ no_chunk) → Lies starts q
  inside : Inside starts q → Lies starts q

pub among_in : {starts : List ℕ} (q : ℕ) (sized_areas : List SizedAreaMeaning) → Inside starts q
    → chunk_among starts sized_areas q ≡ area_chunk (get_or sized_areas (place_of_number starts q) no_area) (index_of q % per (exponent_of q))
among_in {starts} q sized_areas at =
    cond-true (is_placed starts q) _ no_chunk
    (ap (λ b. b && ltb (place_of_number starts q) (get_or starts (exponent_of q - 5 + 1) 0)) (le-leb 5 (exponent_of q) at.least)
    ∙ lt-ltb (place_of_number starts q) (get_or starts (exponent_of q - 5 + 1) 0) at.within)

and_false : (b : Bool) → (b && false) ≡ false
and_false true = refl
and_false false = refl

pub lies : (starts : List ℕ) (q : ℕ) → length starts ≡ 13 → Lies starts q
lies starts q long =
    let e : ℕ = exponent_of q in
    let place : ℕ = place_of_number starts q in
    let end : ℕ = get_or starts (e - 5 + 1) 0 in
    let none : (Inside starts q → ⊥) → is_placed starts q ≡ false → Lies starts q = λ not_in out. outside not_in (λ sized_areas. cond-false (is_placed starts q) (area_chunk (get_or sized_areas place no_area) (index_of q % per e)) no_chunk out) in
    elim (cases_lt e 5) as (λ _. Lies starts q) [
      | inl low ↦ none (λ at. let least = at.least in omega arith) (ap (λ b. b && ltb place end) (lt-leb 5 e low))
      | inr least ↦
          elim (cases_lt place end) as (λ _. Lies starts q) [
            | inr out ↦ none (λ at. let within = at.within in omega arith) (ap (λ b. leb 5 e && b) (le-ltb place end out) ∙ and_false (leb 5 e))
            | inl within ↦
                elim (cases_lt 16 e) as (λ _. Lies starts q) [
                  | inl high ↦ absurd (let past = get_or_past starts (e - 5 + 1) 0 (omega arith) in omega arith)
                  | inr most ↦ inside (record { least = least; most = omega arith; within = within; at = refl })
                ]
          ]
    ]

-- the heap has the chunks of the areas
pub heap_is : (starts : List ℕ) (sized_areas : List SizedAreaMeaning) (q : ℕ) → length starts ≡ 13 → heap_chunk (heap_among starts sized_areas) q ≡ chunk_among starts sized_areas q
unfolding heap_among
heap_is starts sized_areas q long =
    heap_at (chunk_among starts sized_areas) q (λ past. elim (lies starts q long) as (λ _. chunk_among starts sized_areas q ≡ no_chunk) [
      | outside not_in none ↦ none sized_areas
      | inside at ↦ absurd (let most = at.most in omega arith)
    ])

-- ---- the numbers of an area's chunks

-- number q is that of chunk j of area o of class e
pub record IsNumber (e o j q : ℕ) : Type 0 where
  pub exponent : exponent_of q ≡ e
  pub area : index_of q / per e ≡ o
  pub chunk : index_of q % per e ≡ j
  pub small : o * per e + j < 2 ^ 32

pub is_number : {e : ℕ} (o j : ℕ) → 5 ≤ e → o < 1024 → j < per e → IsNumber e o j (number e (o * per e + j))
is_number {e} o j low few l =
    let fits = row_fits o (per e) 1024 2048 few (per_fits low) in
    let small : o * per e + j < 2 ^ 32 = omega arith in
    let index : index_of (number e (o * per e + j)) ≡ o * per e + j = omega arith in
    record {
      exponent = omega arith;
      area = ap (λ n. n / per e) index ∙ div-mul-add o (per e) j l;
      chunk = ap (λ n. n % per e) index ∙ mod-mul-add o (per e) j l;
      small = small;
    }

module _ {v : Version} {starts : List ℕ} {sized_areas : List SizedAreaMeaning} {full : List (List Bool)} (is : IsArranged v starts sized_areas full) where
  pub stands_in : {e o k : ℕ} → Stands starts e o k → k < length sized_areas
  stands_in {e} st = let small : e - 5 < 12 = (let m = st.most in omega arith) in let top = class_end is small in let w = st.within in let a = st.at in omega arith

  pub placed_at : {e o k : ℕ} → Stands starts e o k → (d : SizedAreaMeaning) → IsPlaced v e o (get_or sized_areas k d)
  placed_at {e} {o} {k} st d =
      let class : e - 5 + 5 ≡ e = (let low = st.least in omega arith) in
      subst (λ x. IsPlaced v x o (get_or sized_areas k d)) class
      (subst (λ i. IsPlaced v (e - 5 + 5) o (get_or sized_areas i d)) (sym st.at) (is.placed (e - 5) o d (let m = st.most in omega arith) st.within))

  -- the chunk of a number that lies in an area
  pub chunk_inside : (q : ℕ) → Inside starts q → (d : SizedAreaMeaning) → heap_chunk (heap_among starts sized_areas) q ≡ area_chunk (get_or sized_areas (place_of_number starts q) d) (index_of q % per (exponent_of q))
  chunk_inside q at d =
      heap_is starts sized_areas q is.starts_len ∙ among_in q sized_areas at
      ∙ ap (λ (p : SizedAreaMeaning). area_chunk p (index_of q % per (exponent_of q))) (get_or_default sized_areas (place_of_number starts q) no_area d (stands_in at))

  -- chunk j of area o of class e
  pub chunk_there : {e o k j q : ℕ} → Stands starts e o k → IsNumber e o j q → (d : SizedAreaMeaning) → heap_chunk (heap_among starts sized_areas) q ≡ area_chunk (get_or sized_areas k d) j
  chunk_there {e} {o} {k} {j} {q} st n d =
      let exponent = n.exponent in
      let start : get_or starts (exponent_of q - 5) 0 ≡ get_or starts (e - 5) 0 = ap (λ x. get_or starts (x - 5) 0) exponent in
      let end : get_or starts (exponent_of q - 5 + 1) 0 ≡ get_or starts (e - 5 + 1) 0 = ap (λ x. get_or starts (x - 5 + 1) 0) exponent in
      let area : index_of q / per (exponent_of q) ≡ o = ap (λ x. index_of q / per x) exponent ∙ n.area in
      let chunk : index_of q % per (exponent_of q) ≡ j = ap (λ x. index_of q % per x) exponent ∙ n.chunk in
      let least = st.least in let most = st.most in let w = st.within in let at = st.at in
      let place : place_of_number starts q ≡ k = omega arith in
      chunk_inside q (record { least = omega arith; most = omega arith; within = omega arith; at = refl }) d
      ∙ ap (λ x. area_chunk (get_or sized_areas x d) (index_of q % per (exponent_of q))) place ∙ ap (area_chunk (get_or sized_areas k d)) chunk

-- ---- the class of a place

pub record In (starts : List ℕ) (k : ℕ) : Type 0 where
  pub e : ℕ
  pub o : ℕ
  pub stands : Stands starts e o k

class_of_place : (starts : List ℕ) (k n : ℕ) → n ≤ 12 → get_or starts 0 0 ≡ 0 → k < get_or starts n 0 → In starts k
class_of_place starts k zero fits first l = absurd (omega arith)
class_of_place starts k (suc n) fits first l =
    elim (cases_lt k (get_or starts n 0)) as (λ _. In starts k) [
      | inl low ↦ class_of_place starts k n (omega arith) first low
      | inr high ↦
          let c : n + 5 - 5 ≡ n = omega arith in
          let a : get_or starts (n + 5 - 5) 0 ≡ get_or starts n 0 = ap (λ x. get_or starts x 0) c in
          let b : get_or starts (n + 5 - 5 + 1) 0 ≡ get_or starts (suc n) 0 = ap (λ x. get_or starts x 0) (let h : n + 5 - 5 + 1 ≡ suc n = omega arith in h) in
          record { e = n + 5; o = k - get_or starts n 0; stands = record { least = omega arith; most = omega arith; within = omega arith; at = omega arith } }
    ]

pub in_class : {v : Version} {starts : List ℕ} {sized_areas : List SizedAreaMeaning} {full : List (List Bool)} → IsArranged v starts sized_areas full → (k : ℕ) → k < length sized_areas → In starts k
in_class {starts = starts} is k l = class_of_place starts k 12 (omega arith) is.first (let last = is.last in omega arith)
