use Rattle.std.proofs.Common.{◌≡◌, ℕ, ◌+◌, List, take, sym, ap, subst, ◌∙◌}
use Rattle.dym_base.specs.Packed.{Logged}
use Rattle.dym_base.specs.declared.command.Version.{Version}
use Rattle.dym_heap.specs.RecordLoads.{HaveOneSetOfHandles}
use Rattle.dym_slots.specs.Meanings.{record_at}
use Rattle.dym_chain.specs.Chains.{ChainMeaning, log_at}
use Rattle.dym_chain.specs.Keeps.{bytes_of}
use Rattle.dym_chain.specs.KeptRecords.{AreKeptRecords}
use Rattle.dym_chain.specs.Loads.{HaveVersion}
use Rattle.dym_view.proofs.Oldest.{told_of, version_is, live_is}
use Rattle.dym_view.proofs.oldest_heap.rebuild_oldest.Goals as goal

pub load_first-requires-clause-version : goal.load_first-requires-clause-version
load_first-requires-clause-version g c =
    let m : ChainMeaning = g.L.KeptLogs.meaning c.args.logs.now in
    let kept : AreKeptRecords m = c.slots-slots.ensures.kept in
    let rec = c.lift-rec.result in
    let heap = c.in_ok-heap.heap in
    let is : rec ≡ (record_at m.records (log_at m.logs 0).depth).bytes = c.lift-rec.ensures.bytes ∙ ap (λ d. (record_at m.records d).bytes) c.requires.depth in
    let version : kept.version ≡ heap.version = told_of m kept c.requires.some rec (λ (log : Logged). log.version ≡ heap.version) is c.in_ok-heap.ensures.version in
    let records = ap (λ (k : ChainMeaning). k.records) c.lower.ensures.after ∙ ap (λ (k : ChainMeaning). k.records) c.lift-rec.ensures.after in
    subst (λ (v : Version). HaveVersion v (take (c.args.depth + 1) (bytes_of (g.L.KeptLogs.meaning c.lower.new.self).records))) version
    (subst (λ (p : List (List ℕ)). HaveVersion kept.version p) (λ i. take (sym c.requires.depth i + 1) (bytes_of (sym records i))) (version_is m kept c.requires.some))

pub returns-clause-copy : goal.returns-clause-copy
returns-clause-copy g c =
    let m : ChainMeaning = g.L.KeptLogs.meaning c.args.logs.now in
    let kept : AreKeptRecords m = c.slots-slots.ensures.kept in
    let rec = c.lift-rec.result in
    let live = c.in_ok-heap.heap.state.live in
    let is : rec ≡ (record_at m.records (log_at m.logs 0).depth).bytes = c.lift-rec.ensures.bytes ∙ ap (λ d. (record_at m.records d).bytes) c.requires.depth in
    let handles = told_of m kept c.requires.some rec (λ (log : Logged). HaveOneSetOfHandles live log.copy) is c.in_ok-heap.ensures.handles in
    let records = ap (λ (k : ChainMeaning). k.records) c.lower.ensures.after ∙ ap (λ (k : ChainMeaning). k.records) c.lift-rec.ensures.after in
    live_is m kept c.requires.some live c.load_first.new.heap.state.live handles
    (λ logs recorded are. c.load_first.ensures.loaded logs recorded (are ∙ (λ i. take (sym c.requires.depth i + 1) (bytes_of (sym records i)))))
