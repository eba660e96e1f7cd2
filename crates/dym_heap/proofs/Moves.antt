-- A chunk that moves to another class, or gets another length.
use Rattle.std.proofs.Common.{◌≡◌, ℕ, ◌+◌, ◌-◌, inl, inr, ◌==◌, min, true, is_some, IsSome, Option, Some, None, List, ◌++◌, length, take, drop, replicate, length-take-le, refl, sym, ap, subst, ◌∙◌, arith, MatchOption}
use Rattle.std.specs.FinMap.{get}
use Rattle.std.specs.FinSet.{contains}
use Rattle.std.proofs.lemmas.Bool.{cases_lt, cond-false, ne_eqb}
use Rattle.std.proofs.lemmas.List.{take_all, drop-replicate, length-replicate}
use Rattle.dym_base.specs.Heaps.{HeapState}
use Rattle.dym_base.specs.HeapStep.{splice, fitted, with_chunk, without_chunk, resize, key}
use Rattle.dym_base.specs.declared.handle.Handle.{Handle}
use Rattle.dym_base.specs.declared.command.Version.{Version}
use Rattle.dym_base.specs.declared.command.Version.TheVariants.{One, Two}
use Rattle.dym_heap.specs.Chunks.{ChunkMeaning, heap_chunk}
use Rattle.dym_heap.specs.Shelves.{ShelfMeaning, IsValidShelf, IsTidy, with_put, FitsIn}
use Rattle.dym_heap.proofs.Chunks.{put_here, put_other, put_same, put_twice}
use Rattle.dym_heap.proofs.ShelfCalls.{matched, match_some}
use Rattle.dym_heap.proofs.HandleSteps.{wrote}
use Rattle.dym_heap.proofs.Tidy.{tidy_put}

-- ---- the bytes that moved

first_bytes : (n m : ℕ) (old : List ℕ) → m ≡ min (length old) n → splice 0 (take m old) (replicate n 0) ≡ fitted n old
first_bytes n m old is =
    let xs : List ℕ = take m old in
    let long : length xs ≡ m = length-take-le m old (omega arith) in
    let front : take m old ≡ take n old =
    elim (cases_lt (length old) n) as (λ _. take m old ≡ take n old) [
      | inl low ↦ take_all m old (omega arith) ∙ sym (take_all n old (omega arith))
      | inr high ↦ (let e : m ≡ n = omega arith in ap (λ k. take k old) e)
    ] in
    let rest : drop (0 + length xs) (replicate n 0) ≡ replicate (n - length old) 0 = drop-replicate (0 + length xs) n 0 ∙ (let e : n - (0 + length xs) ≡ n - length old = omega arith in ap (λ k. replicate k 0) e) in
    ap (λ zs. zs ++ drop (0 + length xs) (replicate n 0)) front ∙ ap (λ zs. take n old ++ zs) rest

-- ---- the steps of a move: a fresh chunk, its bytes, and the old chunk's end

pub live_fits : (o : Option (List ℕ)) (old n m : ℕ) → MatchOption o ⊥ (λ bytes. length bytes ≡ old) → m ≡ min old n → FitsIn o m
live_fits None old n m live is = absurd live
live_fits (Some bytes) old n m live is = omega arith

pub zeros_fit : (o : Option (List ℕ)) (old n m : ℕ) → o ≡ Some (replicate n 0) → m ≡ min old n → FitsIn o m
zeros_fit o old n m is small = subst (λ x. FitsIn x m) (sym is) (omega (arith, length-replicate {A = ℕ} n 0))

pub live_some : (o : Option (List ℕ)) (old : ℕ) → MatchOption o ⊥ (λ bytes. length bytes ≡ old) → (x : List ℕ) × (o ≡ Some x) × (length x ≡ old)
live_some None old live = absurd live
live_some (Some bytes) old live = (bytes, refl, live)

-- the first n bytes of one live chunk over those of another, which is touched
abbrev pub CopiesChunk : ShelfMeaning → ShelfMeaning → ℕ → ℕ → ℕ → Type 0
CopiesChunk s t k j n = MatchOption (get s.state.live k) ⊥ (λ source. MatchOption (get s.state.live j) ⊥ (λ target. t ≡ with_put s j (Some (splice 0 (take n source) target)) true))

pub fits_match : (o : Option (List ℕ)) (n : ℕ) (Q : List ℕ → Type 0) → FitsIn o n → ((x : List ℕ) → o ≡ Some x → Q x) → MatchOption o ⊥ Q
fits_match None n Q fits q = absurd fits
fits_match (Some x) n Q fits q = q x refl

-- no byte
pub copied_none : (s : ShelfMeaning) (k j n : ℕ) → n ≡ 0 → FitsIn (get s.state.live k) n → FitsIn (get s.state.live j) n → contains s.state.touched j ≡ true → CopiesChunk s s k j n
copied_none s k j n none from into touched =
    fits_match (get s.state.live k) n _ from (λ source _. fits_match (get s.state.live j) n _ into (λ target there.
    ap (λ st. record s { state = st }) (put_same s.state j (record { bytes = Some target; touched = true }) (λ i. record { bytes = there i; touched = touched i }))
    ∙ ap (λ m. with_put s j (Some (splice 0 (take m source) target)) true) (sym none)))

pub copied_tidy : {s t : ShelfMeaning} (k j n : ℕ) → IsTidy s → IsValidShelf t → CopiesChunk s t k j n → IsTidy t
copied_tidy {s} {t} k j n tidy valid copied =
    let source = matched (get s.state.live k) (λ source. MatchOption (get s.state.live j) ⊥ (λ target. t ≡ with_put s j (Some (splice 0 (take n source) target)) true)) copied in
    let target = matched (get s.state.live j) (λ target. t ≡ with_put s j (Some (splice 0 (take n source.0) target)) true) source.2 in
    tidy_put j (splice 0 (take n source.0) target.0) true tidy valid target.2

-- after the fresh chunk j was taken, the old one, k, is as it was
module _ (s m : ShelfMeaning) (k j n old : ℕ) (ne : k ≡ j → ⊥) (live : MatchOption (get s.state.live k) ⊥ (λ bytes. length bytes ≡ old)) (taken : m.state ≡ with_chunk s.state j (replicate n 0)) where
  source : (x : List ℕ) × (get s.state.live k ≡ Some x) × (length x ≡ old)
  source = live_some (get s.state.live k) old live

  fresh_chunk : heap_chunk m.state j ≡ record { bytes = Some (replicate n 0); touched = true }
  fresh_chunk = ap (λ (st : HeapState). heap_chunk st j) taken ∙ put_here s.state j (record { bytes = Some (replicate n 0); touched = true })

  pub from_m : get m.state.live k ≡ get s.state.live k
  from_m = ap (λ (st : HeapState). get st.live k) taken ∙ ap (λ (c : ChunkMeaning). c.bytes) (put_other s.state j (record { bytes = Some (replicate n 0); touched = true }) k ne)

  pub into_m : get m.state.live j ≡ Some (replicate n 0)
  into_m = ap (λ (c : ChunkMeaning). c.bytes) fresh_chunk

  pub touched_m : contains m.state.touched j ≡ true
  touched_m = ap (λ (c : ChunkMeaning). c.touched) fresh_chunk

  -- after the bytes were copied
  module _ (t : ShelfMeaning) (l : ℕ) (l_is : l ≡ min old n) (copied : CopiesChunk m t k j l) where
    is_t : t ≡ with_put m j (Some (splice 0 (take l source.0) (replicate n 0))) true
    is_t =
        subst (λ o. MatchOption o ⊥ (λ target. t ≡ with_put m j (Some (splice 0 (take l source.0) target)) true)) into_m
        (subst (λ o. MatchOption o ⊥ (λ x. MatchOption (get m.state.live j) ⊥ (λ target. t ≡ with_put m j (Some (splice 0 (take l x) target)) true))) (from_m ∙ source.1) copied)

    state_t : t.state ≡ with_chunk s.state j (fitted n source.0)
    state_t =
        ap (λ (x : ShelfMeaning). x.state) is_t ∙ ap (λ st. with_chunk st j (splice 0 (take l source.0) (replicate n 0))) taken
        ∙ put_twice s.state j (record { bytes = Some (replicate n 0); touched = true }) (record { bytes = Some (splice 0 (take l source.0) (replicate n 0)); touched = true })
        ∙ ap (with_chunk s.state j) (first_bytes n l source.0 (let long = source.2 in omega arith))

    pub live_t : IsSome (get t.state.live k)
    live_t =
        ap (λ (st : HeapState). is_some (get st.live k)) state_t
        ∙ ap (λ (c : ChunkMeaning). is_some c.bytes) (put_other s.state j (record { bytes = Some (fitted n source.0); touched = true }) k ne) ∙ ap is_some source.1

    pub moved : (u : ShelfMeaning) → u.state ≡ without_chunk t.state k → MatchOption (get s.state.live k) ⊥ (λ bytes. u.state ≡ without_chunk (with_chunk s.state j (fitted n bytes)) k)
    moved u freed = match_some source.0 (λ bytes. u.state ≡ without_chunk (with_chunk s.state j (fitted n bytes)) k) source.1 (freed ∙ ap (λ st. without_chunk st k) state_t)

-- ---- another length

two_of : (v : Version) → (v ≡ One → ⊥) → v ≡ Two
two_of One no_one = absurd (no_one refl)
two_of Two no_one = refl

pub resized : {s t : ShelfMeaning} (h : Handle) {n old : ℕ} → IsTidy s → IsValidShelf t → (s.version ≡ One → ⊥) → (n ≡ old → ⊥) → MatchOption (get s.state.live (key h)) ⊥ (λ bytes. length bytes ≡ old)
    → MatchOption (get s.state.live (key h)) ⊥ (λ bytes. t ≡ with_put s (key h) (Some (fitted n bytes)) true)
    → MatchOption (get s.state.live (key h)) ⊥ (λ bytes. t.state ≡ resize s.version s.state h n bytes)
resized {s} {t} h {n} {old} tidy valid no_one ne live gives =
    let w = wrote (fitted n) tidy valid gives in
    let long : length w.old ≡ old = subst (λ o. MatchOption o ⊥ (λ bytes. length bytes ≡ old)) w.was live in
    let two = two_of s.version no_one in
    match_some w.old (λ bytes. t.state ≡ resize s.version s.state h n bytes) w.was
    (ap (λ (x : ShelfMeaning). x.state) w.is
    ∙ sym (ap (λ v. resize v s.state h n w.old) two ∙ cond-false (n == length w.old) s.state (with_chunk s.state (key h) (fitted n w.old)) (ne_eqb n (length w.old) (λ e. ne (omega arith)))))
