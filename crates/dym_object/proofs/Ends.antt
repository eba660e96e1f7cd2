-- The end of a run with one command more.
use Rattle.std.proofs.Common.{◌≡◌, ℕ, List, [], ◌∷◌, ◌++◌, refl, sym, ap, ◌∙◌}
use Rattle.dym_base.specs.BaseLogs.{base_logs_step, base_logs_after}
use Rattle.dym_base.specs.Objects.{LogEntry, ObjectState, object_start, object_step, object_after, run_end}
use Rattle.dym_base.specs.declared.command.Version.{Version}
use Rattle.dym_base.specs.declared.command.Command.{Command}
use Rattle.dym_heap.specs.Meaning.{HeapMeaning}
use Rattle.dym_object.specs.Laws.{RunsGoOn}

after_one : (v : Version) (quota : ℕ) (s : ObjectState) (commands : List Command) (c : Command) → object_after v quota s (commands ++ c ∷ []) ≡ (object_step v quota (object_after v quota s commands) c).object
after_one v quota s [] c = refl
after_one v quota s (d ∷ commands) c = after_one v quota (object_step v quota s d).object commands c

below_one : (v : Version) (quota : ℕ) (s : ObjectState) (base_logs : List LogEntry) (commands : List Command) (c : Command) → base_logs_after v quota s base_logs (commands ++ c ∷ []) ≡ base_logs_step (base_logs_after v quota s base_logs commands) (object_after v quota s commands) c
below_one v quota s base_logs [] c = refl
below_one v quota s base_logs (d ∷ commands) c = below_one v quota (object_step v quota s d).object (base_logs_step base_logs s d) commands c

pub goes_on : RunsGoOn
goes_on commands old new c run object base_logs heap =
    let v : new.heap.version ≡ old.heap.version = ap (λ (h : HeapMeaning). h.version) heap in
    let q : new.heap.quota ≡ old.heap.quota = ap (λ (h : HeapMeaning). h.quota) heap in
    record {
      object = object
          ∙ ap (λ (s : ObjectState). (object_step old.heap.version old.heap.quota s c).object) run.object
          ∙ sym (after_one old.heap.version old.heap.quota object_start commands c)
          ∙ (λ i. run_end (sym v i) (sym q i) (commands ++ c ∷ []));
      base_logs = base_logs
          ∙ (λ i. base_logs_step (run.base_logs i) (run.object i) c)
          ∙ sym (below_one old.heap.version old.heap.quota object_start [] commands c)
          ∙ (λ i. base_logs_after (sym v i) (sym q i) object_start [] (commands ++ c ∷ []));
    }
