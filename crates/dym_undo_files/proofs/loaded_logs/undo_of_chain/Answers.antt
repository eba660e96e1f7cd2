use Rattle.std.proofs.Common.{ℕ, refl, sym, ap, subst, ◌∙◌}
use Rattle.dym_heap.specs.Meaning.{HeapMeaning}
use Rattle.dym_undo.specs.UndoLogs.{UndoMeaning, Belongs}
use Rattle.dym_undo_files.proofs.Opening.{none_brought}
use Rattle.dym_undo_files.proofs.Reading.{readable_as}
use Rattle.dym_undo_files.proofs.loaded_logs.undo_of_chain.Goals as goal

pub read_logs-requires : goal.read_logs-requires
read_logs-requires g c κs within =
    let heap = c.in-Ok-open_as.heap in
    let scratch = c.in-Ok-open.scratch.heap in
    let undo = c.in-Ok.undo in
    let version = ap (λ (x : HeapMeaning). x.version) c.in-Ok-open_as.ensures.opened in
    let quota = ap (λ (x : HeapMeaning). x.quota) c.in-Ok-open_as.ensures.opened in
    let none = ap (λ (x : UndoMeaning). x.logs) c.in-Ok.ensures.opened in (
      search,
      (
        search,
        (
          search,
          (
            refl,
            (
              readable_as _ _ _ _ _ _ (sym version) (sym quota) refl c.requires.readable,
              (
                none_brought _ heap scratch undo
                    (ap (λ (x : HeapMeaning). x.version) c.in-Ok-open.ensures.opened ∙ sym version)
                    (ap (λ (x : HeapMeaning). x.quota) c.in-Ok-open.ensures.opened ∙ c.quota-2.ensures ∙ sym quota)
                    c.in-Ok-open_as.ensures.sound c.in-Ok-open.ensures.sound
                    (ap (λ (x : HeapMeaning). x.state) c.in-Ok-open_as.ensures.opened)
                    (ap (λ (x : HeapMeaning). x.state) c.in-Ok-open.ensures.opened)
                    none
                    (subst (λ (q : ℕ). Belongs heap.version q heap.state undo) (c.quota.ensures ∙ sym quota) (c.in-Ok.ensures.belongs heap.version heap.state)),
                none,
              ),
            ),
          ),
        ),
      ),
    )
