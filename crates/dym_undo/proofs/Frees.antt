-- A free changes one chunk.
use Rattle.std.proofs.Common.{cond, None, sym, ap, ◌∙◌, ℕ}
use Rattle.std.specs.FinMap.{get}
use Rattle.dym_base.specs.Heaps.{HeapState}
use Rattle.dym_base.specs.HeapStep.{without_chunk}
use Rattle.dym_base.proofs.Maps.{get_remove}
use Rattle.dym_undo.specs.UndoLogs.{DiffersAt}
use Rattle.dym_undo.proofs.Lists.{contains_remove, and_right}

pub differs_away : (s : HeapState) (k : ℕ) → DiffersAt k s (without_chunk s k)
differs_away s k = record {
  live = λ q apart. get_remove s.live k q ∙ ap (λ b. cond b None (get s.live q)) apart;
  touched = λ q apart has. and_right _ _ (sym (contains_remove s.touched k q) ∙ has);
}
