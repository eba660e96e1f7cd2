-- What a loop keeps that changes a shelf area by area, as the areas of a record stand.
use Rattle.std.proofs.Common.{◌≡◌, ℕ, ◌+◌, ◌/◌, ◌<◌, ◌≤◌, ◌⊎◌, inl, inr, true, false, is_some, IsSome, refl, sym, ap, subst, ◌∙◌, arith}
use Rattle.std.specs.FinMap.{get, contains_key}
use Rattle.std.proofs.lemmas.Bool.{cases_eq, cases_lt}
use Rattle.dym_base.specs.Numbers.{per, exponent_of, index_of}
use Rattle.dym_base.specs.Heaps.{Live, HeapState, areas, held}
use Rattle.dym_base.proofs.Heaps.{areas_below}
use Rattle.dym_pack.specs.Areas.{AreaName, area_at}
use Rattle.dym_heap.specs.Chunks.{ChunkMeaning, heap_chunk}
use Rattle.dym_heap.specs.Shelves.{ShelfMeaning, IsValidShelf, IsTidy}
use Rattle.dym_heap.specs.Fetches.{IsOfArea, IsAreaChange}
use Rattle.dym_heap.proofs.AreaLists.{stands_in}
use Rattle.dym_heap.proofs.Tidy.{tidy_same}

-- a number lies in an area of a copy, where its class has that area
pub in_area : (copy : Live) (q : ℕ) → 5 ≤ exponent_of q → exponent_of q ≤ 16 → index_of q / per (exponent_of q) < areas copy (exponent_of q) → (k : ℕ) × (k < held copy) × IsOfArea copy k q
in_area copy q low high within =
    let st = stands_in copy (exponent_of q) (index_of q / per (exponent_of q)) low high within in
    let class : exponent_of q ≡ (area_at copy st.k).exponent = sym (ap (λ (a : AreaName). a.exponent) st.is) in
    (st.k, st.within, (class, ap (λ x. index_of q / per x) (sym class) ∙ sym (ap (λ (a : AreaName). a.ordinal) st.is)))

pub live_area : (copy : Live) (q : ℕ) → 5 ≤ exponent_of q → exponent_of q ≤ 16 → contains_key copy q ≡ true → (k : ℕ) × (k < held copy) × IsOfArea copy k q
live_area copy q low high h = in_area copy q low high ((areas_below copy (exponent_of q) (areas copy (exponent_of q))).0 (omega arith) q h refl)

-- ---- the loop

-- the chunk of number q changed, or is as it was and in none of the first n areas of the copy
abbrev pub UpTo : (ℕ → ChunkMeaning → ChunkMeaning → Type 0) → Live → HeapState → HeapState → ℕ → ℕ → Type 0
UpTo R copy old new n q = R q (heap_chunk old q) (heap_chunk new q) ⊎ ((heap_chunk new q ≡ heap_chunk old q) × ((m : ℕ) → m < n → IsOfArea copy m q → ⊥))

pub upto_none : (R : ℕ → ChunkMeaning → ChunkMeaning → Type 0) (copy : Live) (old : HeapState) (q : ℕ) → UpTo R copy old old 0 q
upto_none R copy old q = inr (refl, λ m l e. absurd (omega arith))

-- at the end, where a chunk that the copy hasn't may as well stay
pub upto_all : (R : ℕ → ChunkMeaning → ChunkMeaning → Type 0) (copy : Live) (old new : HeapState) (n : ℕ) → n ≡ held copy
    → ((q : ℕ) → contains_key copy q ≡ true → (5 ≤ exponent_of q) × (exponent_of q ≤ 16)) → ((q : ℕ) (a : ChunkMeaning) → contains_key copy q ≡ false → R q a a)
    → ((q : ℕ) → UpTo R copy old new n q) → (q : ℕ) → R q (heap_chunk old q) (heap_chunk new q)
upto_all R copy old new n all classed idle each q =
    elim (each q) as (λ _. R q (heap_chunk old q) (heap_chunk new q)) [
      | inl done ↦ done
      | inr rest ↦
          elim (contains_key copy q) as (λ b. contains_key copy q ≡ b → R q (heap_chunk old q) (heap_chunk new q)) [
            | false ↦ λ gone. subst (λ x. R q (heap_chunk old q) x) (sym rest.0) (idle q (heap_chunk old q) gone)
            | true ↦ λ h.
                let class = classed q h in
                let lies = live_area copy q class.0 class.1 h in
                absurd (rest.1 lies.0 (let w = lies.1 in omega arith) lies.2)
          ] refl
    ]

pub upto_more : (R : ℕ → ChunkMeaning → ChunkMeaning → Type 0) → ((q : ℕ) (a b c : ChunkMeaning) → R q a b → R q b c → R q a c) → (copy : Live) (k : ℕ) (old : HeapState) {mid new : HeapState}
    → IsAreaChange copy k mid new R → (q : ℕ) → UpTo R copy old mid k q → UpTo R copy old new (k + 1) q
upto_more R trans copy k old {mid} {new} changes q done =
    let outside : (IsOfArea copy k q → ⊥) → UpTo R copy old new (k + 1) q =
    λ apart. (let same = changes.others q apart in elim done as (λ _. UpTo R copy old new (k + 1) q) [
      | inl was ↦ inl (subst (λ x. R q (heap_chunk old q) x) (sym same) was)
      | inr rest ↦ inr (
        same ∙ rest.0,
        λ m less at. elim (cases_lt m k) as (λ _. ⊥) [
          | inl before ↦ rest.1 m before at
          | inr at_least ↦ (let now : m ≡ k = omega arith in apart (subst (λ x. IsOfArea copy x q) now at))
        ],
      )
    ]) in
    elim (cases_eq (exponent_of q) (area_at copy k).exponent) as (λ _. UpTo R copy old new (k + 1) q) [
      | inr ne ↦ outside (λ at. ne at.0)
      | inl class ↦
          elim (cases_eq (index_of q / per (area_at copy k).exponent) (area_at copy k).ordinal) as (λ _. UpTo R copy old new (k + 1) q) [
            | inr ne ↦ outside (λ at. ne at.1)
            | inl area ↦
                let step = changes.here q (class, area) in
                inl (elim done as (λ _. R q (heap_chunk old q) (heap_chunk new q)) [
                  | inl was ↦ trans q (heap_chunk old q) (heap_chunk mid q) (heap_chunk new q) was step
                  | inr rest ↦ subst (λ x. R q x (heap_chunk new q)) rest.0 step
                ])
          ]
    ]

-- ---- the shelf stays tidy

pub tidy_changed : {copy : Live} {k : ℕ} {mid new : ShelfMeaning} {Change : ℕ → ChunkMeaning → ChunkMeaning → Type 0} → IsTidy mid → IsValidShelf new → new ≡ record mid { state = new.state } → IsAreaChange copy k mid.state new.state Change
    → ((q : ℕ) → Change q (heap_chunk mid.state q) (heap_chunk new.state q) → IsSome (get mid.state.live q) → IsSome (get new.state.live q)) → IsTidy new
tidy_changed {copy} {k} {mid} {new} tidy valid same changes keeps =
    tidy_same tidy valid (ap (λ (s : ShelfMeaning). s.counts) same) (λ q some.
    let other : (IsOfArea copy k q → ⊥) → IsSome (get new.state.live q) = λ apart. ap (λ (x : ChunkMeaning). is_some x.bytes) (changes.others q apart) ∙ some in
    elim (cases_eq (exponent_of q) (area_at copy k).exponent) as (λ _. IsSome (get new.state.live q)) [
      | inr ne ↦ other (λ at. ne at.0)
      | inl class ↦
          elim (cases_eq (index_of q / per (area_at copy k).exponent) (area_at copy k).ordinal) as (λ _. IsSome (get new.state.live q)) [
            | inr ne ↦ other (λ at. ne at.1)
            | inl area ↦ keeps q (changes.here q (class, area)) some
          ]
    ])
