-- An undo log and two heaps that were opened.
use Rattle.std.proofs.Common.{◌≡◌, ℕ, List, [], refl, ap, ◌∙◌}
use Rattle.dym_base.specs.Heaps.{HeapState}
use Rattle.dym_base.specs.Objects.{LogEntry, newest, empty_heap}
use Rattle.dym_base.specs.declared.command.Version.{Version}
use Rattle.dym_heap.specs.Meaning.{HeapMeaning, IsSound}
use Rattle.dym_undo.specs.UndoLogs.{UndoMeaning, Belongs}
use Rattle.dym_undo_files.specs.RecordedLogs.{AreBrought}

-- none of any logs was brought to empty heaps and an undo log without a log
pub none_brought : (logs : List LogEntry) (heap scratch : HeapMeaning) (undo : UndoMeaning) → scratch.version ≡ heap.version → scratch.quota ≡ heap.quota → IsSound heap
    → IsSound scratch
    → heap.state ≡ empty_heap → scratch.state ≡ empty_heap → undo.logs ≡ [] → Belongs heap.version heap.quota heap.state undo
    → AreBrought heap.version heap.quota logs 0 heap scratch undo
none_brought logs heap scratch undo version quota sound scratch_sound empty scratch_empty none belongs = record {
  heap_of = record { version_is = refl; quota_is = refl; sound = sound };
  scratch_of = record { version_is = version; quota_is = quota; sound = scratch_sound };
  heap_is = empty;
  scratch_is = scratch_empty;
  newest_is = ap newest none;
  belongs = belongs;
}

-- a heap of which this is told, whatever it holds and wherever its segments come from
pub heap_told : (h k : HeapMeaning) (v : Version) (quota : ℕ) (s : HeapState) → h ≡ k → k.version ≡ v → k.quota ≡ quota → k.state ≡ s → k.applied ≡ 0
    → h ≡ record { version = v; quota = quota; state = s; held_ids = h.held_ids; origin = h.origin; applied = 0 }
heap_told h k v quota s same version quota_is state applied =
    let v_is : h.version ≡ v = ap (λ (x : HeapMeaning). x.version) same ∙ version in
    let q_is : h.quota ≡ quota = ap (λ (x : HeapMeaning). x.quota) same ∙ quota_is in
    let s_is : h.state ≡ s = ap (λ (x : HeapMeaning). x.state) same ∙ state in
    let none : h.applied ≡ 0 = ap (λ (x : HeapMeaning). x.applied) same ∙ applied in
    λ i. record { version = v_is i; quota = q_is i; state = s_is i; held_ids = h.held_ids; origin = h.origin; applied = none i }
