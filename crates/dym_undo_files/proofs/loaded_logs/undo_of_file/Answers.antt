use Rattle.std.proofs.Common.{◌≡◌, ℕ, ◌≤◌, List, refl, sym, ap, subst, ◌∙◌}
use Rattle.std.specs.List.{AllByRecursion}
use Rattle.dym_base.specs.Heaps.{held}
use Rattle.dym_base.specs.Laws.{IsWellSized}
use Rattle.dym_base.specs.Objects.{LogEntry}
use Rattle.dym_base.specs.RunLaws.{FoundLive}
use Rattle.dym_base.specs.declared.command.Version.{Version}
use Rattle.dym_heap.specs.Meaning.{HeapMeaning}
use Rattle.dym_chain.specs.Chains.{ChainMeaning}
use Rattle.dym_ckpt.specs.FileReads.{IsLoaded}
use Rattle.dym_ckpt.specs.declared.file_reader.Loaded.{Loaded}
use Rattle.dym_undo_files.proofs.Loading.{readable, sized, found, loaded_undo}
use Rattle.dym_undo_files.proofs.Opening.{heap_told}
use Rattle.dym_undo_files.proofs.Reading.{readable_as}
use Rattle.dym_undo_files.proofs.loaded_logs.undo_of_file.Goals as goal

pub undo_of_chain-read-requires-clause-readable : goal.undo_of_chain-read-requires-clause-readable
undo_of_chain-read-requires-clause-readable g c =
    let l : Loaded = record { name = c.in_ok-name.name; heap = c.in_ok-name.loaded; chain = c.in_ok-name.chain } in
    let bytes = c.requires.content.0 in
    let is : IsLoaded bytes l = c.in_ok-name.ensures.loaded bytes c.requires.content.1 in
    let within = c.what_objects_keep_may_be_saved.ensures.loaded bytes l is c.records_are_kept.ensures in
    readable_as _ _ _ _ _ _ (sym c.version-version.ensures) (sym c.end-supply.ensures.quota) refl (readable bytes l is c.records_are_kept.ensures within)

pub into_keep-keep-requires : goal.into_keep-keep-requires
into_keep-keep-requires g c =
    let l : Loaded = record { name = c.in_ok-name.name; heap = c.in_ok-name.loaded; chain = c.in_ok-name.chain } in
    let is : IsLoaded c.requires.content.0 l = c.in_ok-name.ensures.loaded c.requires.content.0 c.requires.content.1 in
    record { idle = ap (λ (x : ChainMeaning). x.lifted) c.undo_of_chain-read.ensures.chain ∙ ap (λ (x : ChainMeaning). x.lifted) is.chain }

pub returns-in-Ok-clause-loaded : goal.returns-in-Ok-clause-loaded
returns-in-Ok-clause-loaded g c bytes content =
    let l : Loaded = record { name = c.in_ok-name.name; heap = c.in_ok-name.loaded; chain = c.in_ok-name.chain } in
    let is : IsLoaded bytes l = c.in_ok-name.ensures.loaded bytes content in
    let within = c.what_objects_keep_may_be_saved.ensures.loaded bytes l is c.records_are_kept.ensures in
    loaded_undo bytes l is c.records_are_kept.ensures within c.in-Ok.heap c.in-Ok.undo.logs c.in-Ok.ensures.logs
    (heap_told c.in-Ok.heap _ _ _ _ c.in-Ok.ensures.heap c.version-version.ensures c.end-supply.ensures.quota refl refl)

pub returns-in-Ok-clause-within : goal.returns-in-Ok-clause-within
returns-in-Ok-clause-within g c =
    let l : Loaded = record { name = c.in_ok-name.name; heap = c.in_ok-name.loaded; chain = c.in_ok-name.chain } in
    let bytes = c.requires.content.0 in
    let is : IsLoaded bytes l = c.in_ok-name.ensures.loaded bytes c.requires.content.1 in
    let within = c.what_objects_keep_may_be_saved.ensures.loaded bytes l is c.records_are_kept.ensures in
    let quota : c.in-Ok.heap.quota ≡ l.heap.quota = ap (λ (x : HeapMeaning). x.quota) c.in-Ok.ensures.heap ∙ c.end-supply.ensures.quota in
    subst (λ (es : List LogEntry). AllByRecursion (λ (e : LogEntry). held e.copy ≤ c.in-Ok.heap.quota) es) (sym c.in-Ok.ensures.logs)
    (subst (λ (q : ℕ). AllByRecursion (λ (e : LogEntry). held e.copy ≤ q) l.chain.logs) (sym quota) within.logs)

pub returns-in-Ok-clause-sized : goal.returns-in-Ok-clause-sized
returns-in-Ok-clause-sized g c =
    let l : Loaded = record { name = c.in_ok-name.name; heap = c.in_ok-name.loaded; chain = c.in_ok-name.chain } in
    let bytes = c.requires.content.0 in
    let is : IsLoaded bytes l = c.in_ok-name.ensures.loaded bytes c.requires.content.1 in
    let within = c.what_objects_keep_may_be_saved.ensures.loaded bytes l is c.records_are_kept.ensures in
    let version : c.in-Ok.heap.version ≡ l.heap.version = ap (λ (x : HeapMeaning). x.version) c.in-Ok.ensures.heap ∙ c.version-version.ensures in
    subst (λ (es : List LogEntry). AllByRecursion (λ (e : LogEntry). IsWellSized c.in-Ok.heap.version e.copy) es) (sym c.in-Ok.ensures.logs)
    (subst (λ (v : Version). AllByRecursion (λ (e : LogEntry). IsWellSized v e.copy) l.chain.logs) (sym version) (sized bytes l is c.records_are_kept.ensures within))

pub returns-in-Ok-clause-found : goal.returns-in-Ok-clause-found
returns-in-Ok-clause-found g c =
    let l : Loaded = record { name = c.in_ok-name.name; heap = c.in_ok-name.loaded; chain = c.in_ok-name.chain } in
    let bytes = c.requires.content.0 in
    let is : IsLoaded bytes l = c.in_ok-name.ensures.loaded bytes c.requires.content.1 in
    let within = c.what_objects_keep_may_be_saved.ensures.loaded bytes l is c.records_are_kept.ensures in
    subst (AllByRecursion FoundLive) (sym c.in-Ok.ensures.logs) (found bytes l is c.records_are_kept.ensures within)
