-- What the calls of a tidy shelf on one chunk mean for its heap.
use Rattle.std.proofs.Common.{◌≡◌, ℕ, ◌-◌, ◌^◌, ◌<◌, ◌≤◌, inl, inr, Bool, true, false, is_some, IsSome, Option, Some, None, List, sym, ap, subst, ◌∙◌, arith, get_or-set_other, MatchOption, MatchBool}
use Rattle.std.specs.FinMap.{get}
use Rattle.std.proofs.lemmas.Bool.{cases_eq}
use Rattle.dym_base.specs.Numbers.{number, exponent_of}
use Rattle.dym_base.specs.HeapStep.{with_chunk, without_chunk}
use Rattle.dym_region.specs.declared.segment.SegmentId.{SegmentId}
use Rattle.dym_heap.specs.Chunks.{ChunkMeaning}
use Rattle.dym_heap.specs.Shelves.{ShelfMeaning, IsValidShelf, IsTidy, IsTrimmed, Trims, Keeps, count_of, with_put, with_count}
use Rattle.dym_heap.proofs.Chunks.{put_other}
use Rattle.dym_heap.proofs.ShelfCalls.{matched, match_some}
use Rattle.dym_heap.proofs.Tidy.{tidy_put}

pub keeps_put : {s t : ShelfMeaning} (k : ℕ) (x : Option (List ℕ)) (b : Bool) → t ≡ with_put s k x b → Keeps s t
keeps_put k x b is = record { version = ap (λ (t : ShelfMeaning). t.version) is; quota = ap (λ (t : ShelfMeaning). t.quota) is; origin = ap (λ (t : ShelfMeaning). t.origin) is }

-- a chunk got other bytes, told by what they were
pub record Wrote (s t : ShelfMeaning) (k : ℕ) (f : List ℕ → List ℕ) : Type 0 where
  pub old : List ℕ
  pub was : get s.state.live k ≡ Some old
  pub is : t ≡ with_put s k (Some (f old)) true
  pub after : MatchOption (get s.state.live k) ⊥ (λ old. t.state ≡ with_chunk s.state k (f old))
  pub keeps : Keeps s t
  pub held : t.held_ids ≡ s.held_ids
  pub tidy : IsTidy t

pub wrote : {s t : ShelfMeaning} {k : ℕ} (f : List ℕ → List ℕ) → IsTidy s → IsValidShelf t → MatchOption (get s.state.live k) ⊥ (λ old. t ≡ with_put s k (Some (f old)) true) → Wrote s t k f
wrote {s} {t} {k} f tidy valid gives =
    let it = matched (get s.state.live k) (λ old. t ≡ with_put s k (Some (f old)) true) gives in
    record {
      old = it.0;
      was = it.1;
      is = it.2;
      after = match_some it.0 (λ old. t.state ≡ with_chunk s.state k (f old)) it.1 (ap (λ (x : ShelfMeaning). x.state) it.2);
      keeps = keeps_put k (Some (f it.0)) true it.2;
      held = ap (λ (x : ShelfMeaning). x.held_ids) it.2;
      tidy = tidy_put k (f it.0) true tidy valid it.2;
    }

-- what a release tells of a chunk that is live
pub was_used : (o : Option (List ℕ)) {b : Bool} (Used Free : Type 0) → b ≡ is_some o → IsSome o → MatchBool b Used Free → Used
was_used o Used Free answer used gives = subst (λ a. MatchBool a Used Free) (answer ∙ used) gives

-- the classes but one have as many areas as before
pub count_other : (s : ShelfMeaning) {e d : ℕ} (n : ℕ) (ids : List SegmentId) → 5 ≤ e → 5 ≤ d → (d ≡ e → ⊥) → count_of (with_count s e n ids) d ≡ count_of s d
count_other s {e} {d} n ids low low' ne = get_or-set_other s.counts (e - 5) (d - 5) n 0 (λ same. ne (omega arith))

pub record Freed (s t : ShelfMeaning) (k : ℕ) : Type 0 where
  pub after : t.state ≡ without_chunk s.state k
  pub keeps : Keeps s t
  pub tidy : IsTidy t

pub freed : {s m t : ShelfMeaning} {e i : ℕ} → IsTidy s → IsValidShelf t → m ≡ with_put s (number e i) None false → Trims m t e → 5 ≤ e → i < 2 ^ 32 → Freed s t (number e i)
freed {s} {m} {t} {e} {i} tidy valid is trims low small =
    let k : ℕ = number e i in
    let class_k : exponent_of k ≡ e = omega arith in
    let all : t ≡ with_count (with_put s k None false) e trims.left t.held_ids = trims.is ∙ ap (λ (x : ShelfMeaning). with_count x e trims.left t.held_ids) is in
    record {
      after = ap (λ (x : ShelfMeaning). x.state) all;
      keeps = record { version = ap (λ (x : ShelfMeaning). x.version) all; quota = ap (λ (x : ShelfMeaning). x.quota) all; origin = ap (λ (x : ShelfMeaning). x.origin) all };
      tidy = record {
        valid_shelf = valid;
        trimmed = λ d class.
            elim (cases_eq d e) as (λ _. IsTrimmed t d) [
              | inl same ↦ subst (IsTrimmed t) (sym same) trims.trimmed
              | inr ne ↦ λ n some.
                  let last = tidy.trimmed d class n (sym (ap (λ (x : ShelfMeaning). count_of x d) all ∙ count_other s trims.left t.held_ids low class.0 ne) ∙ some) in
                  let live : IsSome (get t.state.live last.0) =
                  ap (λ (x : ShelfMeaning). is_some (get x.state.live last.0)) all
                  ∙ ap (λ (c : ChunkMeaning). is_some c.bytes) (put_other s.state k (record { bytes = None; touched = false }) last.0 (λ same. ne (sym last.2 ∙ ap exponent_of same ∙ class_k))) ∙ last.1 in
                  (last.0, live, last.2, last.3)
            ];
      };
    }
