-- A shelf of which one chunk is as it was before a change.
use Rattle.std.proofs.Common.{◌≡◌, ℕ, ◌+◌, ◌-◌, ◌/◌, ◌^◌, ◌<◌, ◌≤◌, inl, inr, max, Bool, true, false, is_some, IsSome, Some, List, length, get_or, set, sum, refl, sym, ap, subst, ◌∙◌, arith, get_or-set_same, MatchBool}
use Rattle.std.specs.FinMap.{get, insert}
use Rattle.std.proofs.lemmas.Bool.{cases_eq, cases_lt}
use Rattle.std.proofs.lemmas.List.{set-get_or, set-set}
use Rattle.std.proofs.lemmas.List.Sums.{sum_by-set}
use Rattle.dym_base.specs.Numbers.{number, per, exponent_of, index_of}
use Rattle.dym_base.specs.Heaps.{HeapState, held}
use Rattle.dym_base.specs.HeapStep.{without_chunk}
use Rattle.dym_heap.specs.Chunks.{ChunkMeaning, heap_chunk, no_chunk}
use Rattle.dym_heap.specs.Shelves.{ShelfMeaning, IsValidShelf, IsTidy, IsTrimmed, Keeps, count_of, with_put, with_count}
use Rattle.dym_heap.specs.ShapeSteps.{HasRoomFor, ReachesArea}
use Rattle.dym_heap.specs.Undo.{with_chunk_back, without_touch}
use Rattle.dym_heap.proofs.Chunks.{put_here, put_some, put_same, quiet_is}
use Rattle.dym_heap.proofs.HandleSteps.{count_other}
use Rattle.dym_heap.proofs.Reshapes.{chunk_gone}
use Rattle.dym_heap.proofs.Taking.{held_least}
use Rattle.dym_heap.proofs.Tidy.{tidy_same}

-- ---- a class takes areas until it has that of an ordinal

pub room_for : {s : ShelfMeaning} (e i : ℕ) (bytes : List ℕ) → IsTidy s → 5 ≤ e → e ≤ 16 → i < 2 ^ 32 → held (insert s.state.live (number e i) bytes) ≤ s.quota → HasRoomFor s e (i / per e)
room_for e i bytes tidy low high small within = let least = held_least e i bytes tidy low high small in omega arith

-- what the loop keeps: each area that came holds a segment, and no chunk changed
pub record Reaching (old new : ShelfMeaning) (e o : ℕ) : Type 0 where
  pub is : new ≡ with_count old e (count_of new e) new.held_ids
  pub least : count_of old e ≤ count_of new e
  pub most : count_of new e ≤ max (count_of old e) (o + 1)
  pub held : length new.held_ids + count_of old e ≡ length old.held_ids + count_of new e
  pub valid_shelf : IsValidShelf new

pub reaching_none : (s : ShelfMeaning) (e o : ℕ) → IsValidShelf s → Reaching s s e o
reaching_none s e o valid = record { is = ap (λ cs. record s { counts = cs }) (sym (set-get_or s.counts (e - 5) 0)); least = omega arith; most = omega arith; held = refl; valid_shelf = valid }

-- a segment more is held for an area more
pub held_more : {s t : ShelfMeaning} (e n : ℕ) → IsValidShelf s → IsValidShelf t → e - 5 < 12 → t ≡ with_count s e n t.held_ids → length t.held_ids + count_of s e ≡ length s.held_ids + n
held_more {s} {t} e n valid valid' small is =
    let before = valid.holds in
    let after = valid'.holds ∙ ap (λ (x : ShelfMeaning). sum x.counts) is in
    let set = sum_by-set (λ (x : ℕ). x) s.counts (e - 5) n 0 (let c = valid.classes in omega arith) in
    omega arith

module _ {old mid : ShelfMeaning} {e o : ℕ} (low : 5 ≤ e) (high : e ≤ 16) (so_far : Reaching old mid e o) (less : count_of mid e ≤ o) where
  -- a segment is left for the next area
  pub reaching_room : HasRoomFor old e o → length mid.held_ids < mid.quota
  reaching_room room = let h = so_far.held in let q = ap (λ (s : ShelfMeaning). s.quota) so_far.is in omega arith

  pub reaching_more : {new : ShelfMeaning} → new ≡ with_count mid e (count_of mid e + 1) new.held_ids → IsValidShelf new → Reaching old new e o
  reaching_more {new} added valid =
      let small : e - 5 < 12 = omega arith in
      let count : count_of new e ≡ count_of mid e + 1 =
      ap (λ (s : ShelfMeaning). count_of s e) added ∙ get_or-set_same mid.counts (e - 5) (count_of mid e + 1) 0 (let n = so_far.valid_shelf.classes in omega arith) in
      record {
        is = added ∙ ap (λ (s : ShelfMeaning). with_count s e (count_of mid e + 1) new.held_ids) so_far.is
            ∙ ap (λ cs. record old { held_ids = new.held_ids; counts = cs }) (set-set old.counts (e - 5) (count_of mid e) (count_of mid e + 1) ∙ ap (set old.counts (e - 5)) (sym count));
        least = (let l = so_far.least in omega arith);
        most = omega arith;
        held = (let h = so_far.held in let m = held_more e (count_of mid e + 1) so_far.valid_shelf valid small added in omega arith);
        valid_shelf = valid;
      }

pub reaching_done : {old new : ShelfMeaning} {e o : ℕ} → Reaching old new e o → o < count_of new e → ReachesArea old new e o
reaching_done {old} {new} {e} {o} so_far past =
    let least = so_far.least in let most = so_far.most in
    so_far.is ∙ (let n : count_of new e ≡ max (count_of old e) (o + 1) = omega arith in ap (λ n. with_count old e n new.held_ids) n)

-- ---- a chunk is put back

pub record PutBack (s t : ShelfMeaning) (k : ℕ) (bytes : List ℕ) : Type 0 where
  pub after : t.state ≡ with_chunk_back s.state k bytes
  pub keeps : Keeps s t
  pub tidy : IsTidy t

module _ {s m : ShelfMeaning} {e i : ℕ} (tidy : IsTidy s) (low : 5 ≤ e) (high : e ≤ 16) (small : i < 2 ^ 32) (reaches : ReachesArea s m e (i / per e)) where
  pub count_m : count_of m e ≡ max (count_of s e) (i / per e + 1)
  count_m = ap (λ (x : ShelfMeaning). count_of x e) reaches ∙ get_or-set_same s.counts (e - 5) (max (count_of s e) (i / per e + 1)) 0 (let n = tidy.valid_shelf.classes in omega arith)

  -- the area of the chunk is there
  pub there : i / per e < count_of m e
  there = let n = count_m in omega arith

  pub put_back : {t : ShelfMeaning} (bytes : List ℕ) → IsValidShelf t → t ≡ with_put m (number e i) (Some bytes) false → PutBack s t (number e i) bytes
  put_back {t} bytes valid is =
      let k : ℕ = number e i in
      let counts = ap (λ (x : ShelfMeaning). x.counts) is in
      let state : t.state ≡ with_chunk_back s.state k bytes = ap (λ (x : ShelfMeaning). x.state) is ∙ ap (λ (x : ShelfMeaning). with_chunk_back x.state k bytes) reaches in
      let still : (q : ℕ) → IsSome (get s.state.live q) → IsSome (get t.state.live q) = λ q some. ap (λ (h : HeapState). is_some (get h.live q)) state ∙ put_some s.state k bytes false q some in
      let index : index_of k ≡ i = omega arith in
      record {
        after = state;
        keeps = record {
          version = ap (λ (x : ShelfMeaning). x.version) is ∙ ap (λ (x : ShelfMeaning). x.version) reaches;
          quota = ap (λ (x : ShelfMeaning). x.quota) is ∙ ap (λ (x : ShelfMeaning). x.quota) reaches;
          origin = ap (λ (x : ShelfMeaning). x.origin) is ∙ ap (λ (x : ShelfMeaning). x.origin) reaches;
        };
        tidy = record {
          valid_shelf = valid;
          trimmed = λ d class.
              elim (cases_eq d e) as (λ _. IsTrimmed t d) [
                | inr ne ↦ λ n some.
                    let last = tidy.trimmed d class n (sym (ap (λ cs. get_or cs (d - 5) 0) counts ∙ ap (λ (x : ShelfMeaning). count_of x d) reaches ∙ count_other s (max (count_of s e) (i / per e + 1)) m.held_ids low class.0 ne) ∙ some) in
                    (last.0, still last.0 last.1, last.2, last.3)
                | inl one ↦ subst (IsTrimmed t) (sym one) (λ n some.
                    let count = ap (λ cs. get_or cs (e - 5) 0) counts ∙ count_m in
                    elim (cases_lt (i / per e + 1) (count_of s e)) as (λ _. (q : ℕ) × IsSome (get t.state.live q) × (exponent_of q ≡ e) × (index_of q / per e ≡ n)) [
                      | inl more ↦ (let last = tidy.trimmed e (low, high) n (omega arith) in (last.0, still last.0 last.1, last.2, last.3))
                      | inr last ↦ (
                        k,
                        ap (λ (h : HeapState). is_some (get h.live k)) state ∙ ap (λ (c : ChunkMeaning). is_some c.bytes) (put_here s.state k (record { bytes = Some bytes; touched = false })),
                        omega arith,
                        ap (λ x. x / per e) index ∙ (let h : i / per e ≡ n = omega arith in h),
                      )
                    ])
              ];
        };
      }

-- ---- a chunk that isn't live

module _ {s : ShelfMeaning} (k : ℕ) (tidy : IsTidy s) (dead : is_some (get s.state.live k) ≡ false) where
  chunk_none : heap_chunk s.state k ≡ no_chunk
  chunk_none = chunk_gone k tidy.valid_shelf (λ some. let none = dead in absurd cc)

  pub dead_untouched : s.state ≡ without_touch s.state k
  dead_untouched = quiet_is s.state k (ap (λ (c : ChunkMeaning). c.touched) chunk_none)

  dead_gone : s.state ≡ without_chunk s.state k
  dead_gone = put_same s.state k no_chunk chunk_none

-- what a call tells that frees a chunk where it is live
pub taken_away : {s : ShelfMeaning} (t : ShelfMeaning) (k : ℕ) (b : Bool) → IsTidy s → b ≡ is_some (get s.state.live k) → MatchBool b (t.state ≡ without_chunk s.state k) (t ≡ s) → t.state ≡ without_chunk s.state k
taken_away t k true tidy live after = after
taken_away t k false tidy live after = ap (λ (x : ShelfMeaning). x.state) after ∙ dead_gone k tidy (sym live)

-- ---- a chunk isn't touched any more

pub record Forgot (s t : ShelfMeaning) (k : ℕ) : Type 0 where
  pub after : t.state ≡ without_touch s.state k
  pub keeps : Keeps s t
  pub held : t.held_ids ≡ s.held_ids
  pub tidy : IsTidy t

pub forgot : {s t : ShelfMeaning} (k : ℕ) → IsTidy s → IsValidShelf t → t ≡ record s { state = without_touch s.state k } → Forgot s t k
forgot {s} {t} k tidy valid is = record {
  after = ap (λ (x : ShelfMeaning). x.state) is;
  keeps = record { version = ap (λ (x : ShelfMeaning). x.version) is; quota = ap (λ (x : ShelfMeaning). x.quota) is; origin = ap (λ (x : ShelfMeaning). x.origin) is };
  held = ap (λ (x : ShelfMeaning). x.held_ids) is;
  tidy = tidy_same tidy valid (ap (λ (x : ShelfMeaning). x.counts) is) (λ q some. ap (λ (x : ShelfMeaning). is_some (get x.state.live q)) is ∙ some);
}
