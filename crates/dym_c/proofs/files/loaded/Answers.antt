use Rattle.std.proofs.Common.{◌≡◌, ◌∙◌, sym, refl, subst}
use Rattle.dym_undo_object.specs.Meaning.{UndoObjectMeaning}
use Rattle.dym_undo_files.specs.LoadedLogs.{IsLoadedUndo}
use Rattle.dym_c.specs.SavedFiles.{IsLoadedObject}
use Rattle.dym_c.proofs.files.loaded.Goals as goal

pub returns-in-Ok-new-clause-loaded : goal.returns-in-Ok-new-clause-loaded
returns-in-Ok-new-clause-loaded c =
    let loaded = c.in-Ok-undo_of_file.loaded in
    let is : IsLoadedUndo c.args.bytes.now loaded.0 loaded.1 loaded.2.logs
    = c.in-Ok-undo_of_file.ensures.loaded c.args.bytes.now c.in_ok-content.ensures.content in
    let o : UndoObjectMeaning = record { heap = loaded.1; logs = loaded.2.logs; ran = 0 } in
    let same : c.in-Ok-new.inside.value ≡ o = c.in-Ok-new.ensures.ok ∙ c.of_parts-object.ensures in
    let origin = c.in-Ok-undo_of_file.ensures.origin ∙ c.in-Ok.ensures.origin in
    subst (IsLoadedObject c.args.bytes.now) (sym same) ((loaded.0, is), refl, (c.in-Ok.supply.region.id, origin))
