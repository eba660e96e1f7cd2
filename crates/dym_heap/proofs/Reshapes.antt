-- A shelf whose areas get the use bits of a record's, one after the other.
use Rattle.std.proofs.Common.{◌≡◌, ℕ, ◌≤◌, inl, inr, true, false, is_some, IsSome, Option, Some, None, List, [], refl, sym, subst, ◌∙◌, arith}
use Rattle.std.specs.Prelude.{unwrap_or}
use Rattle.std.specs.FinMap.{get, contains_key}
use Rattle.std.specs.FinSet.{contains}
use Rattle.dym_base.specs.Numbers.{exponent_of, IsClass}
use Rattle.dym_base.specs.Heaps.{Live, HeapState, areas, held}
use Rattle.dym_base.specs.Laws.{IsWellSized}
use Rattle.dym_base.proofs.Heaps.{areas_reached}
use Rattle.dym_base.specs.declared.command.Version.{Version}
use Rattle.dym_heap.specs.Chunks.{ChunkMeaning, heap_chunk, no_chunk}
use Rattle.dym_heap.specs.Shelves.{ShelfMeaning, IsValidShelf, IsTidy, count_of}
use Rattle.dym_heap.specs.Fetches.{IsReshaped}
use Rattle.dym_heap.proofs.Chunks.{none_of}
use Rattle.dym_heap.proofs.AreaSteps.{UpTo, in_area, live_area}
use Rattle.dym_heap.proofs.Wants.{reshaped_again, reshaped_free, reshaped_gone}

-- the chunk of number q, after the heap got the handles of a copy
abbrev pub Reshaped : Live → ℕ → ChunkMeaning → ChunkMeaning → Type 0
Reshaped copy q old new = IsReshaped (contains_key copy q) old new

pub reshaped_twice : (copy : Live) (q : ℕ) (a b c : ChunkMeaning) → Reshaped copy q a b → Reshaped copy q b c → Reshaped copy q a c
reshaped_twice copy q a b c first second = reshaped_again first second

some_value : (o : Option (List ℕ)) → is_some o ≡ true → o ≡ Some (unwrap_or o [])
some_value None h = absurd cc
some_value (Some x) h = refl

-- a handle of a copy is of a class
pub class_of : (v : Version) (copy : Live) → IsWellSized v copy → (q : ℕ) → contains_key copy q ≡ true → (5 ≤ exponent_of q) × (exponent_of q ≤ 16)
class_of v copy sized q h =
    let fits = sized q (unwrap_or (get copy q) []) (some_value (get copy q) h) in
    (fits.0, fits.1)

-- what isn't live isn't touched
pub chunk_gone : {s : ShelfMeaning} (q : ℕ) → IsValidShelf s → (IsSome (get s.state.live q) → ⊥) → heap_chunk s.state q ≡ no_chunk
chunk_gone {s} q valid dead =
    let bytes : get s.state.live q ≡ None = none_of (get s.state.live q) (elim (is_some (get s.state.live q)) as (λ b. is_some (get s.state.live q) ≡ b → b ≡ false) [ true ↦ λ h. absurd (dead h) | false ↦ λ h. refl ] refl) in
    let touched : contains s.state.touched q ≡ false = elim (contains s.state.touched q) as (λ b. contains s.state.touched q ≡ b → b ≡ false) [ true ↦ λ h. absurd (dead (valid.touched_live q h)) | false ↦ λ h. refl ] refl in
    λ i. record { bytes = bytes i; touched = touched i }

module _ (v : Version) (copy : Live) (old : HeapState) {s : ShelfMeaning} (sized : IsWellSized v copy) (valid : IsValidShelf s) (are : (e : ℕ) → IsClass e → count_of s e ≡ areas copy e)
    (upto : (q : ℕ) → UpTo (Reshaped copy) copy old s.state (held copy) q) where
  pub shaped : (q : ℕ) → Reshaped copy q (heap_chunk old q) (heap_chunk s.state q)
  shaped q =
      elim (upto q) as (λ _. Reshaped copy q (heap_chunk old q) (heap_chunk s.state q)) [
        | inl done ↦ done
        | inr rest ↦
            elim (contains_key copy q) as (λ b. contains_key copy q ≡ b → IsReshaped b (heap_chunk old q) (heap_chunk s.state q)) [
              | true ↦ λ h. absurd (let class = class_of v copy sized q h in let lies = live_area copy q class.0 class.1 h in rest.1 lies.0 lies.1 lies.2)
              | false ↦ λ none. subst (λ x. IsReshaped false (heap_chunk old q) x) (sym (chunk_gone q valid (λ some.
                  let class = valid.class q some in
                  let within = valid.in_area q some in
                  let count = are (exponent_of q) class in
                  let lies = in_area copy q class.0 class.1 (omega arith) in
                  rest.1 lies.0 lies.1 lies.2))) (reshaped_gone (heap_chunk old q))
            ] refl
      ]

  pub tidy : IsTidy s
  tidy = record {
    valid_shelf = valid;
    trimmed = λ e class n is. (let reached = areas_reached copy e n (sym (are e class) ∙ is) in (reached.0, (shaped reached.0).used ∙ reached.1, reached.2, reached.3));
  }

-- areas that were given back or taken before don't matter: the copy's had the same chunks
pub shaped_from : (copy : Live) (old mid new : HeapState) → ((q : ℕ) → contains_key copy q ≡ true → heap_chunk mid q ≡ heap_chunk old q)
    → ((q : ℕ) → Reshaped copy q (heap_chunk mid q) (heap_chunk new q)) → (q : ℕ) → Reshaped copy q (heap_chunk old q) (heap_chunk new q)
shaped_from copy old mid new agree shaped q =
    elim (contains_key copy q) as (λ b. contains_key copy q ≡ b → IsReshaped b (heap_chunk old q) (heap_chunk new q)) [
      | false ↦ λ none. reshaped_free (heap_chunk mid q) (heap_chunk old q) (heap_chunk new q) (subst (λ b. IsReshaped b (heap_chunk mid q) (heap_chunk new q)) none (shaped q))
      | true ↦ λ h. subst (λ b. IsReshaped b (heap_chunk old q) (heap_chunk new q)) h (subst (λ x. Reshaped copy q x (heap_chunk new q)) (agree q h) (shaped q))
    ] refl
