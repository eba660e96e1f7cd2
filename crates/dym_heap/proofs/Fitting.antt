-- A shelf that gets as many areas as a record has, and the record's bitmaps.
use Rattle.std.proofs.Common.{◌≡◌, ℕ, ◌+◌, ◌-◌, ◌/◌, ◌<◌, ◌≤◌, ◌&&◌, inl, inr, max, Bool, true, false, ltb, List, length, get_or, refl, sym, ap, subst, ◌∙◌, arith, get_or-set_same}
use Rattle.std.proofs.lemmas.Bool.{cases_eq, ltb-true}
use Rattle.std.proofs.lemmas.List.FromFn.{length-map-range_with_len}
use Rattle.dym_base.specs.Numbers.{per, exponent_of, index_of, IsClass}
use Rattle.dym_base.specs.Heaps.{Live, HeapState, areas, held}
use Rattle.dym_base.specs.Packed.{bitmap}
use Rattle.dym_pack.specs.Areas.{AreaName, area_at}
use Rattle.dym_heap.specs.Chunks.{heap_chunk}
use Rattle.dym_heap.specs.Shelves.{ShelfMeaning, IsValidShelf, Keeps, count_of, with_count}
use Rattle.dym_heap.proofs.AreaLists.{named}
use Rattle.dym_heap.proofs.HandleSteps.{count_other}

pub keeps_trans : {a b c : ShelfMeaning} → Keeps a b → Keeps b c → Keeps a c
keeps_trans x y = record { version = y.version ∙ x.version; quota = y.quota ∙ x.quota; origin = y.origin ∙ x.origin }

pub keeps_state : {a b c : ShelfMeaning} (st : HeapState) → Keeps a b → c ≡ record b { state = st } → Keeps a c
keeps_state st x same = record {
  version = ap (λ (s : ShelfMeaning). s.version) same ∙ x.version;
  quota = ap (λ (s : ShelfMeaning). s.quota) same ∙ x.quota;
  origin = ap (λ (s : ShelfMeaning). s.origin) same ∙ x.origin;
}

-- ---- class e has n areas now, whatever its chunks are

abbrev pub Recounted : ShelfMeaning → ShelfMeaning → ℕ → ℕ → Type 0
Recounted old new e n = new ≡ record (with_count old e n new.held_ids) { state = new.state }

pub with_count_is : (old new : ShelfMeaning) (e n : ℕ) → new ≡ with_count old e n new.held_ids → Recounted old new e n
with_count_is old new e n is = is ∙ ap (λ st. record (with_count old e n new.held_ids) { state = st }) (sym (ap (λ (s : ShelfMeaning). s.state) is))

module _ (old new : ShelfMeaning) (e n : ℕ) (low : 5 ≤ e) (high : e ≤ 16) (now : Recounted old new e n) where
  pub count_now : IsValidShelf old → count_of new e ≡ n
  count_now valid = ap (λ (s : ShelfMeaning). count_of s e) now ∙ get_or-set_same old.counts (e - 5) n 0 (let c = valid.classes in omega arith)

  pub count_else : {d : ℕ} → 5 ≤ d → (d ≡ e → ⊥) → count_of new d ≡ count_of old d
  count_else {d} low' ne = ap (λ (s : ShelfMeaning). count_of s d) now ∙ count_other old n new.held_ids low low' ne

  pub keeps_now : Keeps old new
  keeps_now = record { version = ap (λ (s : ShelfMeaning). s.version) now; quota = ap (λ (s : ShelfMeaning). s.quota) now; origin = ap (λ (s : ShelfMeaning). s.origin) now }

-- the classes below e have what they should, or less; class e is next
abbrev pub Upto : ShelfMeaning → List ℕ → ℕ → (ℕ → ℕ → Type 0) → Type 0
Upto s counts e P = (d : ℕ) → 5 ≤ d → d < e → P (count_of s d) (get_or counts (d - 5) 0)

pub upto_else : (old new : ShelfMeaning) (e n : ℕ) (counts : List ℕ) (P : ℕ → ℕ → Type 0) → 5 ≤ e → e ≤ 16 → Recounted old new e n → Upto old counts e P → Upto new counts e P
upto_else old new e n counts P low high now upto d low' less = subst (λ x. P x (get_or counts (d - 5) 0)) (sym (count_else old new e n low high now low' (λ same. omega arith))) (upto d low' less)

pub upto_next : (s : ShelfMeaning) (counts : List ℕ) (e : ℕ) (P : ℕ → ℕ → Type 0) → Upto s counts e P → P (count_of s e) (get_or counts (e - 5) 0) → Upto s counts (e + 1) P
upto_next s counts e P upto here d low less =
    elim (cases_eq d e) as (λ _. P (count_of s d) (get_or counts (d - 5) 0)) [
      | inl same ↦ subst (λ x. P (count_of s x) (get_or counts (x - 5) 0)) (sym same) here
      | inr ne ↦ upto d low (omega arith)
    ]

-- no class has more than it should
abbrev pub AtMost : ShelfMeaning → List ℕ → Type 0
AtMost s counts = (d : ℕ) → IsClass d → count_of s d ≤ get_or counts (d - 5) 0

pub still_most : (old new : ShelfMeaning) (e : ℕ) (counts : List ℕ) → IsValidShelf old → 5 ≤ e → e ≤ 16 → Recounted old new e (count_of old e + 1) → count_of old e < get_or counts (e - 5) 0 → AtMost old counts → AtMost new counts
still_most old new e counts valid low high now less most d class =
    elim (cases_eq d e) as (λ _. count_of new d ≤ get_or counts (d - 5) 0) [
      | inl same ↦ subst (λ x. count_of new x ≤ get_or counts (x - 5) 0) (sym same) (let n = count_now old new e (count_of old e + 1) low high now valid in omega arith)
      | inr ne ↦ (let n = count_else old new e (count_of old e + 1) low high now class.0 ne in let m = most d class in omega arith)
    ]

-- the chunks that a shelf should have are as they were
abbrev pub Agree : HeapState → HeapState → List ℕ → Type 0
Agree old new counts = (k : ℕ) → index_of k / per (exponent_of k) < get_or counts (exponent_of k - 5) 0 → heap_chunk new k ≡ heap_chunk old k

pub still_agree : (old mid new : ShelfMeaning) (e : ℕ) (counts : List ℕ) → IsValidShelf mid → 5 ≤ e → e ≤ 16 → Recounted mid new e (count_of mid e - 1) → get_or counts (e - 5) 0 < count_of mid e
    → ((k : ℕ) → (exponent_of k ≡ e → index_of k / per e < count_of new e) → heap_chunk new.state k ≡ heap_chunk mid.state k) → Agree old.state mid.state counts → Agree old.state new.state counts
still_agree old mid new e counts valid low high now more chunks agree k within =
    let n = count_now mid new e (count_of mid e - 1) low high now valid in
    chunks k (λ class. (let a = ap (λ x. index_of k / per x) class in let b = ap (λ x. get_or counts (x - 5) 0) class in omega arith)) ∙ agree k within

-- ---- a record's bitmap

pub length-bitmap : (n : ℕ) (f : ℕ → Bool) → length (bitmap n f) ≡ max 1 (n / 8)
unfolding bitmap
length-bitmap n f = length-map-range_with_len _ 0 (max 1 (n / 8))

pub set_below : (i n : ℕ) (b x : Bool) → b ≡ (ltb i n && x) → b ≡ true → i < n
set_below i n b x is h =
    elim (ltb i n) as (λ t. ltb i n ≡ t → (t && x) ≡ true → i < n) [ true ↦ λ t p. ltb-true i n t | false ↦ λ t p. absurd cc ] refl (sym is ∙ h)

pub bitmap_fits : {n : ℕ} (f : ℕ → Bool) {e x : ℕ} {bytes : List ℕ} → bytes ≡ bitmap n f → e ≡ x → n ≡ per x → length bytes ≡ max 1 (per e / 8)
bitmap_fits {n} f is e_is n_is = ap length is ∙ length-bitmap n f ∙ ap (λ k. max 1 (k / 8)) (n_is ∙ ap per (sym e_is))

-- an area of the record is one of the shelf
pub area_there : (copy : Live) (s : ShelfMeaning) (k e o : ℕ) → k < held copy → e ≡ (area_at copy k).exponent → o ≡ (area_at copy k).ordinal → ((d : ℕ) → IsClass d → count_of s d ≡ areas copy d) → o < count_of s e
area_there copy s k e o l e_is o_is are =
    let n = named copy k l in
    let class : e ≡ n.e = e_is ∙ ap (λ (a : AreaName). a.exponent) n.is in
    let ordinal = o_is ∙ ap (λ (a : AreaName). a.ordinal) n.is in
    let low = n.least in let high = n.most in
    let within = n.within in
    let count = are e (omega arith, omega arith) in
    let same = ap (areas copy) class in
    omega arith
