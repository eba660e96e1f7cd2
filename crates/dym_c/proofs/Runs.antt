-- An object that ran commands, one after the other.
use Rattle.std.proofs.Common.{◌≡◌, ℕ, List, [], ◌∷◌, refl, sym, ap, subst, ◌∙◌}
use Rattle.dym_base.specs.Objects.{ObjectState, ObjectAnswer, log, restore, object_step, object_after}
use Rattle.dym_base.specs.RestoreLaws.{IsLogged, RestoresBringBack}
use Rattle.dym_base.specs.declared.command.Command.{Command}
use Rattle.dym_base.specs.declared.command.Kind.{Kind}
use Rattle.dym_base.specs.declared.command.Kind.TheVariants.{Full, Inc}
use Rattle.dym_base.specs.declared.command.Version.{Version}
use Rattle.dym_heap.specs.Meaning.{HeapMeaning}
use Rattle.dym_undo_object.specs.Commands.{log_command}
use Rattle.dym_undo_object.specs.Meaning.{UndoObjectMeaning, state_of}
use Rattle.dym_c.specs.Calls.{HasRun}
use Rattle.dym_c.specs.RestoreLaw.{HaveRun, ExportsBringBack}

-- a command leaves the version and the quota
version_stays : (old new : UndoObjectMeaning) (c : Command) → HasRun old new c → new.heap.version ≡ old.heap.version
version_stays old new c run = ap (λ (h : HeapMeaning). h.version) run.step.heap

quota_stays : (old new : UndoObjectMeaning) (c : Command) → HasRun old new c → new.heap.quota ≡ old.heap.quota
quota_stays old new c run = ap (λ (h : HeapMeaning). h.quota) run.step.heap

abbrev is_same : Version → ℕ → UndoObjectMeaning → Type 0
is_same v quota o = (o.heap.version ≡ v) × (o.heap.quota ≡ quota)

-- the object that calls leave is that of the definition
pub have_run : (v : Version) (quota : ℕ) (old new : UndoObjectMeaning) (commands : List Command) → is_same v quota old → HaveRun old commands new
    → is_same v quota new × (state_of new ≡ object_after v quota (state_of old) commands)
have_run v quota old new [] same run =
    (subst (is_same v quota) (sym run) same, ap state_of run)
have_run v quota old new (c ∷ cs) same run =
    let next = run.0 in
    let one = run.1 in
    let rest = have_run v quota next new cs (version_stays old next c one ∙ same.0, quota_stays old next c one ∙ same.1) run.2 in
    let step : state_of next ≡ (object_step v quota (state_of old) c).object =
    one.step.object ∙ (λ i. (object_step (same.0 i) (same.1 i) (state_of old) c).object) in
    (rest.0, rest.1 ∙ ap (λ (s : ObjectState). object_after v quota s cs) step)

logs_alike : (v : Version) (quota : ℕ) (s : ObjectState) (t : ℕ) (kind : Kind) → object_step v quota s (log_command kind t) ≡ log v s t kind
logs_alike v quota s t Full = refl
logs_alike v quota s t Inc = refl

pub bring_back : RestoresBringBack → ExportsBringBack
bring_back law old logged later restored t kind commands whole made is_logged between from back at =
    let v = old.heap.version in
    let quota = old.heap.quota in
    let s = state_of old in
    let alike = logs_alike v quota s t kind in
    let start : state_of logged ≡ (log v s t kind).object = made.step.object ∙ ap (λ (a : ObjectAnswer). a.object) alike in
    let run = have_run v quota logged later commands (version_stays old logged (log_command kind t) made, quota_stays old logged (log_command kind t) made) between in
    let end : state_of later ≡ object_after v quota (log v s t kind).object commands =
    run.1 ∙ ap (λ (o : ObjectState). object_after v quota o commands) start in
    let said = law v quota s t kind commands whole.list (subst (λ (a : ObjectAnswer). IsLogged a.reply) alike is_logged) from
    (ap (λ (o : ObjectState). (restore o t).reply) (sym end) ∙ at) in
    ap (λ (o : ObjectState). o.heap.live) back.step.object ∙ ap (λ (o : ObjectState). (restore o t).object.heap.live) end ∙ said
