-- What a heap allows of a chunk that comes back to it.
use Rattle.std.proofs.Common.{◌≡◌, ℕ, ◌^◌, ◌<◌, ◌≤◌, inl, inr, is_some, Some, List, length, subst, sym, ap, ◌∙◌, arith}
use Rattle.std.specs.FinMap.{get, insert}
use Rattle.dym_base.specs.Numbers.{number, exponent_of}
use Rattle.dym_base.specs.Heaps.{Live, HeapState, held}
use Rattle.dym_base.specs.HeapStep.{without_chunk}
use Rattle.dym_base.specs.declared.command.Version.{Version}
use Rattle.dym_base.proofs.Maps.{Has, has_cases, has_removed}
use Rattle.dym_base.proofs.Heaps.{held_grows}
use Rattle.dym_heap.specs.Meaning.{HeapMeaning, IsSound, IsSizeOf}
use Rattle.dym_heap.specs.Undo.{with_chunk_back}

-- what is live in one heap is live in the other
abbrev pub Within : HeapMeaning → HeapMeaning → Type 0
Within now was = (q : ℕ) → Has now.state.live q → Has was.state.live q

-- a chunk has a length of its class
pub length_again : {was : HeapMeaning} (v : Version) (e i n : ℕ) (bytes : List ℕ) → IsSound was → v ≡ was.version → get was.state.live (number e i) ≡ Some bytes → n ≡ length bytes → i < 2 ^ 32
    → IsSizeOf v e n
length_again {was} v e i n bytes sound version there long small =
    let is : exponent_of (number e i) ≡ e = omega arith in
    subst (λ w. IsSizeOf w e n) (sym version)
    (subst (λ x. IsSizeOf was.version x n) is (subst (IsSizeOf was.version (exponent_of (number e i))) (sym long) (sound.sized (number e i) bytes there)))

-- a heap that has no other chunks has room for one that was there
pub room_again : {was : HeapMeaning} (now : HeapMeaning) (k : ℕ) (old bytes : List ℕ) → IsSound was → get was.state.live k ≡ Some old → now.quota ≡ was.quota → Within now was
    → held (insert now.state.live k bytes) ≤ now.quota
room_again {was} now k old bytes sound there quota within =
    let fits = sound.within in
    let less = held_grows (insert now.state.live k bytes) was.state.live (λ q has. elim (has_cases now.state.live k bytes q has) as (λ _. Has was.state.live q) [
      | inl same ↦ subst (λ x. Has was.state.live x) (sym same) (ap is_some there)
      | inr here ↦ within q here
    ]) in
    omega arith

-- a heap from which a chunk was taken away
pub within_away : (was h now : HeapMeaning) (k : ℕ) → now.state ≡ without_chunk h.state k → Within h was → Within now was
within_away was h now k after within q has =
    within q (has_removed h.state.live k q (subst (λ (m : Live). Has m q) (ap (λ (x : HeapState). x.live) after) has)).1

-- and one to which a chunk was put back that was there
pub within_back : (was h now : HeapMeaning) (k : ℕ) (old bytes : List ℕ) → now.state ≡ with_chunk_back h.state k bytes → get was.state.live k ≡ Some old
    → Within h was → Within now was
within_back was h now k old bytes after there within q has =
    elim (has_cases h.state.live k bytes q (subst (λ (m : Live). Has m q) (ap (λ (x : HeapState). x.live) after) has)) as (λ _. Has was.state.live q) [
      | inl same ↦ subst (λ x. Has was.state.live x) (sym same) (ap is_some there)
      | inr here ↦ within q here
    ]
