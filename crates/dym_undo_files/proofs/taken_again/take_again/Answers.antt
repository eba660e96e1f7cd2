use Rattle.std.proofs.Common.{◌≡◌, ◌<◌, ◌≤◌, List, [], ◌∷◌, ◌++◌, length, take, sym, ap, subst, ◌∙◌, arith}
use Rattle.dym_base.specs.Objects.{LogEntry}
use Rattle.dym_heap.specs.Meaning.{HeapMeaning}
use Rattle.dym_undo.specs.UndoLogs.{log_at}
use Rattle.dym_undo_files.specs.TakenChains.{AreTaken, IsHeapOf}
use Rattle.dym_undo_files.proofs.Taking.{take_more, take_whole}
use Rattle.dym_undo.specs.declared.entry.Entry.{Entry}
use Rattle.dym_undo_files.specs.declared.scratch_heap.ScratchHeap.{ScratchHeap}
use Rattle.dym_undo_files.proofs.TakenLists.{taken_none, taken_as}
use Rattle.dym_undo_files.proofs.taken_again.take_again.Goals as goal

pub loop-k-init : goal.loop-k-init
loop-k-init g c =
    let v = c.args.heap.now.version in
    let q = c.args.heap.now.quota in
    let b = c.in_ok-before.before.heap in
    let n = c.in_ok-now.now.heap in
    let of_b : IsHeapOf v q b = record {
      version_is = ap (λ (h : HeapMeaning). h.version) c.in_ok-before.ensures.opened ∙ c.version-version.ensures;
      quota_is = ap (λ (h : HeapMeaning). h.quota) c.in_ok-before.ensures.opened ∙ c.quota-quota.ensures;
      sound = c.in_ok-before.ensures.sound;
    } in
    let of_n : IsHeapOf v q n = record {
      version_is = ap (λ (h : HeapMeaning). h.version) c.in_ok-now.ensures.opened ∙ c.version-version.ensures;
      quota_is = ap (λ (h : HeapMeaning). h.quota) c.in_ok-now.ensures.opened ∙ c.quota-quota.ensures;
      sound = c.in_ok-now.ensures.sound;
    } in
    record { taken = taken_none v q b c.args.chain.now of_b (ap (λ (h : HeapMeaning). h.state) c.in_ok-before.ensures.opened) c.requires.empty; now = of_n }

pub loop-k-preserved : goal.loop-k-preserved
loop-k-preserved g c =
    let v = c.args.heap.now.version in
    let q = c.args.heap.now.quota in
    let logs = c.args.undo.now.logs in
    let k = c.loop-k.k in
    let e = log_at logs k in
    let b = c.loop-k.before.heap in
    let taken = c.loop-k.invariant.taken in
    let of = taken.heap in
    let lt : k < length logs = omega (arith, c.loop-k-test.true, c.kept-k-end.ensures) in
    let mine = taken_as v b.version q b.quota (take k logs) b c.loop-k.chain (sym of.version_is) (sym of.quota_is) taken in
    let more = c.in_ok-log_differing.ensures.taken (take k logs) e (sym (ap (λ (x : Entry). x.time) c.entry.ensures)) c.in_ok-bring_log.ensures.state mine in
    let next = taken_as b.version v b.quota q (take k logs ++ e ∷ []) c.log_differing.new.now c.log_differing.new.chain of.version_is of.quota_is more in
    let x : c.swap.new.x.heap ≡ c.log_differing.new.now = ap (λ (s : ScratchHeap). s.heap) c.swap.ensures.x_after in
    let y : c.swap.new.y.heap ≡ b = ap (λ (s : ScratchHeap). s.heap) c.swap.ensures.y_after in
    record {
      taken = subst (λ (l : List LogEntry). AreTaken v q l c.swap.new.x.heap c.log_differing.new.chain) (sym (take_more k logs lt))
          (subst (λ (h : HeapMeaning). AreTaken v q (take k logs ++ e ∷ []) h c.log_differing.new.chain) (sym x) next);
      now = subst (IsHeapOf v q) (sym y) of;
    }

pub returns-clause-taken : goal.returns-clause-taken
returns-clause-taken g c =
    let logs = c.args.undo.now.logs in
    let past : length logs ≤ c.loop-k.k = omega (arith, c.loop-k-test.false, c.kept-k-end.ensures) in (
      c.loop-k.before.heap,
      subst (λ (l : List LogEntry). AreTaken c.args.heap.now.version c.args.heap.now.quota l c.loop-k.before.heap c.loop-k.chain)
          (take_whole c.loop-k.k logs past) c.loop-k.invariant.taken,
    )
