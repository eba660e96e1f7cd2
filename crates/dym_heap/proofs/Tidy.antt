-- A tidy shelf has as many areas as its chunks need.
use Rattle.std.proofs.Common.{◌≡◌, ℕ, zero, suc, ◌+◌, ◌-◌, ◌/◌, ◌^◌, ◌<◌, ◌≤◌, inl, inr, Bool, true, false, List, [], ◌∷◌, length, get_or, is_some, IsSome, Some, None, sum, sum_by, refl, sym, ap, subst, ◌∙◌, arith, add-zero}
use Rattle.std.specs.List.{range_with_len}
use Rattle.std.specs.FinMap.{get}
use Rattle.std.specs.FinSet.{contains}
use Rattle.std.proofs.lemmas.List.Sums.{sum_by-cons}
use Rattle.std.proofs.lemmas.Bool.{cases_lt}
use Rattle.dym_base.specs.Numbers.{per, number, exponent_of, index_of, IsClass, IsNoClass}
use Rattle.dym_base.specs.Heaps.{Live, areas, held, fresh}
use Rattle.dym_base.specs.HeapStep.{key}
use Rattle.dym_base.specs.declared.handle.Handle.{Handle}
use Rattle.dym_base.proofs.Heaps.{areas_below, reach_areas, reach_there, fresh_free, below_fresh}
use Rattle.dym_heap.specs.Meaning.{HeapMeaning, IsSound}
use Rattle.dym_heap.specs.Shelves.{ShelfMeaning, IsValidShelf, IsTidy, count_of, with_put}
use Rattle.dym_heap.proofs.Chunks.{none_of, put_some}

-- ---- the areas of a class, and the segments of all

pub count_is : {s : ShelfMeaning} → IsTidy s → (e : ℕ) → IsClass e → count_of s e ≡ areas s.state.live e
count_is {s} tidy e class =
    let most : areas s.state.live e ≤ count_of s e =
    (areas_below s.state.live e (count_of s e)).1 (λ k has same. subst (λ x. index_of k / per x < count_of s x) same (tidy.valid_shelf.in_area k has)) in
    elim (count_of s e) as (λ n. count_of s e ≡ n → areas s.state.live e ≤ n → n ≡ areas s.state.live e) [
      | zero ↦ λ is l. omega arith
      | suc n ↦ λ is l.
          let last = tidy.trimmed e class n (omega arith) in
          let far = reach_areas s.state.live e last.0 last.1 in
          let there = reach_there e last.0 last.2 in
          let at = last.3 in
          omega arith
    ] refl most

pub sum_points : (f : ℕ → ℕ) (xs : List ℕ) (a n : ℕ) → length xs ≡ n → ((c : ℕ) → c < n → get_or xs c 0 ≡ f (a + c)) → sum xs ≡ sum_by f (range_with_len a n)
sum_points f [] a zero long each = refl
sum_points f [] a (suc n) long each = absurd (omega arith)
sum_points f (x ∷ xs) a zero long each = absurd (omega arith)
sum_points f (x ∷ xs) a (suc n) long each =
    let rest = sum_points f xs (a + 1) n (omega arith) (λ c l. each (suc c) (omega arith) ∙ (let e : a + suc c ≡ a + 1 + c = omega arith in ap f e)) in
    let first : x ≡ f a = each 0 (omega arith) ∙ ap f (add-zero a) in
    sum_by-cons (λ y. y) x xs ∙ (let s = sum_by-cons f a (range_with_len (a + 1) n) in omega arith)

pub tidy_held : {s : ShelfMeaning} → IsTidy s → held s.state.live ≡ length s.held_ids
unfolding held
tidy_held {s} tidy =
    sym (tidy.valid_shelf.holds
    ∙ sum_points (areas s.state.live) s.counts 5 12 tidy.valid_shelf.classes (λ c l.
    let same : c ≡ 5 + c - 5 = omega arith in ap (λ x. get_or s.counts x 0) same ∙ count_is tidy (5 + c) (omega arith, omega arith)))

-- ---- a shelf stays tidy where no chunk goes

pub tidy_same : {s t : ShelfMeaning} → IsTidy s → IsValidShelf t → t.counts ≡ s.counts → ((k : ℕ) → IsSome (get s.state.live k) → IsSome (get t.state.live k)) → IsTidy t
tidy_same tidy valid counts some = record {
  valid_shelf = valid;
  trimmed = λ e class n is. (let last = tidy.trimmed e class n (sym (ap (λ cs. get_or cs (e - 5) 0) counts) ∙ is) in (last.0, some last.0 last.1, last.2, last.3));
}

pub tidy_put : {s t : ShelfMeaning} (k : ℕ) (bytes : List ℕ) (b : Bool) → IsTidy s → IsValidShelf t → t ≡ with_put s k (Some bytes) b → IsTidy t
tidy_put {s} k bytes b tidy valid is =
    tidy_same tidy valid (ap (λ (x : ShelfMeaning). x.counts) is) (λ q some. ap (λ (x : ShelfMeaning). is_some (get x.state.live q)) is ∙ put_some s.state k bytes b q some)

-- ---- what callers see of a heap is sound

abbrev pub meaning_of : ShelfMeaning → ℕ → HeapMeaning
meaning_of s applied = record { version = s.version; quota = s.quota; state = s.state; held_ids = s.held_ids; origin = s.origin; applied = applied }

pub sound_of : {s : ShelfMeaning} (applied : ℕ) → IsTidy s → IsSound (meaning_of s applied)
sound_of {s} applied tidy =
    let valid = tidy.valid_shelf in
    record {
      quota_least = valid.quota_least;
      quota_most = valid.quota_most;
      holds = sym (tidy_held tidy);
      within = (let h = tidy_held tidy in let w = valid.within in omega arith);
      least_class = λ k h. (valid.class k h).0;
      most_class = λ k h. (valid.class k h).1;
      sized = valid.sized;
      touched_live = valid.touched_live;
    }

-- the number of a handle that has no class is of none
pub no_class : (h : Handle) → h.index < 2 ^ 32 → IsNoClass h.exp → IsClass (exponent_of (key h)) → ⊥
no_class h small out class =
    let same : exponent_of (number h.exp h.index) ≡ h.exp = omega arith in
    let low = class.0 in
    let high = class.1 in
    elim out as (λ _. ⊥) [
      | inl below ↦ omega arith
      | inr above ↦ omega arith
    ]

-- a number outside the classes is that of no live chunk
pub not_live : {s : ShelfMeaning} (k : ℕ) → IsValidShelf s → (IsClass (exponent_of k) → ⊥) → get s.state.live k ≡ None
not_live {s} k valid out =
    elim (is_some (get s.state.live k)) as (λ b. is_some (get s.state.live k) ≡ b → get s.state.live k ≡ None) [
      | true ↦ λ h. absurd (out (valid.class k h))
      | false ↦ λ h. none_of (get s.state.live k) h
    ] refl

-- nor touched
pub not_touched : {s : ShelfMeaning} (k : ℕ) → IsValidShelf s → (IsClass (exponent_of k) → ⊥)
    → contains s.state.touched k ≡ false
not_touched {s} k valid out =
    elim (contains s.state.touched k) as (λ b. contains s.state.touched k ≡ b → contains s.state.touched k ≡ false) [
      | true ↦ λ h. absurd (out (valid.class k (valid.touched_live k h)))
      | false ↦ λ h. h
    ] refl

-- ---- the least free index

pub fresh_is : (live : Live) (e i : ℕ) → get live (number e i) ≡ None → ((j : ℕ) → j < i → IsSome (get live (number e j))) → fresh live e ≡ i
fresh_is live e i free used =
    elim (cases_lt (fresh live e) i) as (λ _. fresh live e ≡ i) [
      | inl low ↦ absurd (let some = used (fresh live e) low in let none = fresh_free live e in cc)
      | inr at_least ↦
          elim (cases_lt i (fresh live e)) as (λ _. fresh live e ≡ i) [
            | inl high ↦ absurd (let some = below_fresh live e i high in let none = ap is_some free in cc)
            | inr at_most ↦ omega arith
          ]
    ]
