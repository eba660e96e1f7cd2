-- What it means for a heap that a chunk is taken.
use Rattle.std.proofs.Common.{◌≡◌, ℕ, zero, suc, ◌+◌, ◌-◌, ◌*◌, ◌/◌, ◌^◌, ◌<◌, ◌≤◌, inl, inr, true, false, is_some, IsSome, Some, None, List, [], length, get_or, replicate, refl, sym, ap, subst, ◌∙◌, arith, get_or-set_same, sum_by}
use Rattle.std.specs.List.{range_with_len}
use Rattle.std.specs.FinMap.{get, insert}
use Rattle.std.proofs.lemmas.Bool.{cases_eq}
use Rattle.std.proofs.Math.Nat.{add-mul}
use Rattle.std.proofs.lemmas.List.Sums.{sum_by-cons, sum_by-le-sum_by, get_or-le-sum_by}
use Rattle.std.proofs.lemmas.Nat.{pow_pos, div-mul-add, mul-le}
use Rattle.dym_base.specs.Numbers.{per, number, exponent_of, index_of}
use Rattle.dym_base.specs.Heaps.{Live, HeapState, areas, held, fresh}
use Rattle.dym_base.specs.HeapStep.{with_chunk, held_with_fresh}
use Rattle.dym_base.proofs.Maps.{Has, has_new, has_kept}
use Rattle.dym_base.proofs.Heaps.{areas_grow, reach_areas, reach_there, held_insert_any}
use Rattle.dym_heap.specs.Chunks.{ChunkMeaning}
use Rattle.dym_heap.specs.Shelves.{ShelfMeaning, IsValidShelf, IsTidy, IsTrimmed, IsFirstFree, Keeps, count_of, with_put, with_count}
use Rattle.dym_heap.proofs.Sizes.{per_fits}
use Rattle.dym_heap.proofs.Chunks.{none_of, put_here, put_some}
use Rattle.dym_heap.proofs.HandleSteps.{count_other, keeps_put}
use Rattle.dym_heap.proofs.Tidy.{count_is, tidy_held, tidy_put, fresh_is}

-- ---- a chunk that comes needs the segments up to that of its area

-- a sum of terms none of which is smaller: each term's growth is part of the sum's
sum_at : (f g : ℕ → ℕ) → ((x : ℕ) → g x ≤ f x) → (a n e : ℕ) → a ≤ e → e < a + n → sum_by g (range_with_len a n) + f e ≤ sum_by f (range_with_len a n) + g e
sum_at f g each a zero e low high = absurd (omega arith)
sum_at f g each a (suc n) e low high =
    let x = sum_by-cons f a (range_with_len (a + 1) n) in
    let y = sum_by-cons g a (range_with_len (a + 1) n) in
    let first = each a in
    elim (cases_eq a e) as (λ _. sum_by g (range_with_len a (suc n)) + f e ≤ sum_by f (range_with_len a (suc n)) + g e) [
      | inl same ↦
          let rest = sum_by-le-sum_by g f (range_with_len (a + 1) n) each in
          let p : f e ≡ f a = ap f (sym same) in
          let q : g e ≡ g a = ap g (sym same) in
          omega arith
      | inr ne ↦ (let rest = sum_at f g each (a + 1) n e (omega arith) (omega arith) in omega arith)
    ]

held_at : (a b : Live) → ((k : ℕ) → Has a k → Has b k) → (e : ℕ) → 5 ≤ e → e ≤ 16 → held a + areas b e ≤ held b + areas a e
unfolding held
held_at a b more e low high = sum_at (areas b) (areas a) (areas_grow a b more) 5 12 e low (omega arith)

pub held_least : {s : ShelfMeaning} (e i : ℕ) (bytes : List ℕ) → IsTidy s → 5 ≤ e → e ≤ 16 → i < 2 ^ 32 → length s.held_ids + i / per e + 1 ≤ held (insert s.state.live (number e i) bytes) + count_of s e
held_least {s} e i bytes tidy low high small =
    let k : ℕ = number e i in
    let live : Live = s.state.live in
    let is : exponent_of k ≡ e = omega arith in
    let index : index_of k ≡ i = omega arith in
    let there = reach_areas (insert live k bytes) e k (has_new live k bytes) in
    let far = reach_there e k is in
    let same : index_of k / per e ≡ i / per e = ap (λ n. n / per e) index in
    let grown = held_at live (insert live k bytes) (has_kept live k bytes) e low high in
    let now = count_is tidy e (low, high) in
    let holds = tidy_held tidy in
    omega arith

-- ---- a chunk is taken

-- no chunk of the areas of class e is free
abbrev pub IsFull : ShelfMeaning → ℕ → Type 0
IsFull s e = (i : ℕ) → i < count_of s e * per e → IsSome (get s.state.live (number e i))

-- chunk i of class e was taken, with n bytes
pub record Took (s t : ShelfMeaning) (e i n : ℕ) : Type 0 where
  pub index : i ≡ fresh s.state.live e
  pub state : t.state ≡ with_chunk s.state (number e i) (replicate n 0)
  pub tidy : IsTidy t
  pub keeps : Keeps s t
  pub held : held_with_fresh s.state.live e ≡ length t.held_ids

took : {s t : ShelfMeaning} (e i n : ℕ) → IsFirstFree s.state e i → t.state ≡ with_chunk s.state (number e i) (replicate n 0) → IsTidy t → Keeps s t → Took s t e i n
took {s} {t} e i n first state tidy keeps =
    let index : fresh s.state.live e ≡ i = fresh_is s.state.live e i first.free first.least in
    record {
      index = sym index;
      state = state;
      tidy = tidy;
      keeps = keeps;
      held =
          ap (λ x. held (insert s.state.live (number e x) [])) index ∙ held_insert_any s.state.live (number e i) [] (replicate n 0)
          ∙ sym (ap (λ (h : HeapState). held h.live) state) ∙ tidy_held tidy;
    }

pub took_first : {s t : ShelfMeaning} (e : ℕ) {i : ℕ} (n : ℕ) → IsTidy s → IsValidShelf t → t ≡ with_put s (number e i) (Some (replicate n 0)) true → IsFirstFree s.state e i → Took s t e i n
took_first e {i} n tidy valid is first = took e i n first (ap (λ (x : ShelfMeaning). x.state) is) (tidy_put (number e i) (replicate n 0) true tidy valid is) (keeps_put (number e i) (Some (replicate n 0)) true is)

-- the call before left the shelf m as it was, s
pub grown_from : {s m u : ShelfMeaning} (e : ℕ) → m ≡ s → u ≡ with_count m e (count_of m e + 1) u.held_ids → u ≡ with_count s e (count_of s e + 1) u.held_ids
grown_from {u = u} e same grown = grown ∙ ap (λ (x : ShelfMeaning). with_count x e (count_of x e + 1) u.held_ids) same

-- ---- where no chunk is free

module _ {s : ShelfMeaning} {e : ℕ} (valid : IsValidShelf s) (low : 5 ≤ e) (high : e ≤ 16) where
  -- the index behind the last area
  abbrev end : ℕ
  end = count_of s e * per e

  few : count_of s e ≤ 1024
  few =
      let n = get_or-le-sum_by (λ (x : ℕ). x) s.counts (e - 5) 0 (let c = valid.classes in omega arith) in
      let holds = valid.holds in let within = valid.within in let most = valid.quota_most in
      omega arith

  pub end_small : end < 2 ^ 32
  end_small = let rows = mul-le (count_of s e) (per e) 1024 2048 few (per_fits low) in omega arith

  pub end_free : get s.state.live (number e end) ≡ None
  end_free =
      let small = end_small in
      let class : exponent_of (number e end) ≡ e = omega arith in
      let index : index_of (number e end) ≡ end + 0 = omega arith in
      let at : index_of (number e end) / per e ≡ count_of s e = ap (λ x. x / per e) index ∙ div-mul-add (count_of s e) (per e) 0 (pow_pos (16 - e)) in
      elim (is_some (get s.state.live (number e end))) as (λ b. is_some (get s.state.live (number e end)) ≡ b → get s.state.live (number e end) ≡ None) [
        | false ↦ λ h. none_of (get s.state.live (number e end)) h
        | true ↦ λ h. absurd (let l = subst (λ x. index_of (number e end) / per x < count_of s x) class (valid.in_area (number e end) h) in omega arith)
      ] refl

  pub fresh_full : IsFull s e → fresh s.state.live e ≡ end
  fresh_full full = fresh_is s.state.live e end end_free full

-- more segments would be needed
pub held_full : {s : ShelfMeaning} (e : ℕ) → IsTidy s → IsFull s e → 5 ≤ e → e ≤ 16 → length s.held_ids < held_with_fresh s.state.live e
held_full {s} e tidy full low high =
    let at = fresh_full tidy.valid_shelf low high full in
    let least = held_least e (count_of s e * per e) [] tidy low high (end_small tidy.valid_shelf low high) in
    let index : (count_of s e * per e) / per e ≡ count_of s e = ap (λ x. x / per e) (let z : count_of s e * per e ≡ count_of s e * per e + 0 = omega arith in z) ∙ div-mul-add (count_of s e) (per e) 0 (pow_pos (16 - e)) in
    let same : held_with_fresh s.state.live e ≡ held (insert s.state.live (number e (count_of s e * per e)) []) = ap (λ x. held (insert s.state.live (number e x) [])) at in
    omega arith

module _ {s u : ShelfMeaning} (e : ℕ) (tidy : IsTidy s) (grown : u ≡ with_count s e (count_of s e + 1) u.held_ids) (low : 5 ≤ e) (high : e ≤ 16) where
  count_u : count_of u e ≡ count_of s e + 1
  count_u = ap (λ (x : ShelfMeaning). count_of x e) grown ∙ get_or-set_same s.counts (e - 5) (count_of s e + 1) 0 (let n = tidy.valid_shelf.classes in omega arith)

  -- in an area that was just added
  pub took_grown : {t : ShelfMeaning} {i : ℕ} (n : ℕ) → IsValidShelf t → t ≡ with_put u (number e i) (Some (replicate n 0)) true → IsFull s e → IsFirstFree u.state e i → Took s t e i n
  took_grown {t} {i} n valid is full first =
      let same = ap (λ (x : ShelfMeaning). x.state) grown in
      let first' = subst (λ st. IsFirstFree st e i) same first in
      let counts = ap (λ (x : ShelfMeaning). x.counts) is in
      let at : i ≡ count_of s e * per e = sym (fresh_is s.state.live e i first'.free first'.least) ∙ fresh_full tidy.valid_shelf low high full in
      let state : t.state ≡ with_chunk s.state (number e i) (replicate n 0) = ap (λ (x : ShelfMeaning). x.state) is ∙ ap (λ st. with_chunk st (number e i) (replicate n 0)) same in
      took e i n first' state (record {
        valid_shelf = valid;
        trimmed = λ d class.
            elim (cases_eq d e) as (λ _. IsTrimmed t d) [
              | inl one ↦ subst (IsTrimmed t) (sym one) (λ m some.
                  let small = first'.small in
                  let count : count_of t e ≡ count_of s e + 1 = ap (λ cs. get_or cs (e - 5) 0) counts ∙ count_u in
                  let index : index_of (number e i) ≡ count_of s e * per e + 0 = omega arith in (
                    number e i,
                    ap (λ (h : HeapState). is_some (get h.live (number e i))) state ∙ ap (λ (c : ChunkMeaning). is_some c.bytes) (put_here s.state (number e i) (record { bytes = Some (replicate n 0); touched = true })),
                    omega arith,
                    ap (λ x. x / per e) index ∙ div-mul-add (count_of s e) (per e) 0 (pow_pos (16 - e)) ∙ (let h : count_of s e ≡ m = omega arith in h),
                  ))
              | inr ne ↦ λ m some.
                  let last = tidy.trimmed d class m (sym (ap (λ cs. get_or cs (d - 5) 0) counts ∙ ap (λ (x : ShelfMeaning). count_of x d) grown ∙ count_other s (count_of s e + 1) u.held_ids low class.0 ne) ∙ some) in
                  (last.0, ap (λ (h : HeapState). is_some (get h.live last.0)) state ∙ put_some s.state (number e i) (replicate n 0) true last.0 last.1, last.2, last.3)
            ];
      })
      (record {
        version = ap (λ (x : ShelfMeaning). x.version) is ∙ ap (λ (x : ShelfMeaning). x.version) grown;
        quota = ap (λ (x : ShelfMeaning). x.quota) is ∙ ap (λ (x : ShelfMeaning). x.quota) grown;
        origin = ap (λ (x : ShelfMeaning). x.origin) is ∙ ap (λ (x : ShelfMeaning). x.origin) grown;
      })

  -- the area that was added has a free chunk
  pub grown_free : IsFull u e → ⊥
  grown_free full =
      let some = full (count_of s e * per e) (let c = ap (λ x. x * per e) count_u in let m = add-mul (count_of s e) 1 (per e) in let p : 0 < per e = pow_pos (16 - e) in omega arith) in
      let none = ap (λ (x : ShelfMeaning). is_some (get x.state.live (number e (count_of s e * per e)))) grown ∙ ap is_some (end_free tidy.valid_shelf low high) in
      absurd cc
