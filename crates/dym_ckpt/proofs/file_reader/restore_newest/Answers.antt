use Rattle.std.proofs.Common.{ap, subst, ◌∙◌}
use Rattle.dym_base.specs.Objects.{ObjectState}
use Rattle.dym_heap.specs.Meaning.{HeapMeaning}
use Rattle.dym_chain.specs.Chains.{ChainMeaning, Belongs}
use Rattle.dym_ckpt.proofs.Restored.{restored_newest, same_records, same_chain}
use Rattle.dym_ckpt.proofs.file_reader.restore_newest.Goals as goal

pub returns-in-Some-clause-state : goal.returns-in-Some-clause-state
returns-in-Some-clause-state g c =
    ap (λ (s : ObjectState). s.heap) (c.restore-at.ensures.after ∙ restored_newest c.args.heap.now.state c.args.chain.now.logs c.in-Some.time c.requires.kept.list.2 c.in-Some.ensures)

pub returns-in-Some-clause-chain : goal.returns-in-Some-clause-chain
returns-in-Some-clause-chain g c =
    same_chain c.args.chain.now c.restore-at.new.self c.restore-at.ensures.chain
    (ap (λ (s : ObjectState). s.logs) (c.restore-at.ensures.after ∙ restored_newest c.args.heap.now.state c.args.chain.now.logs c.in-Some.time c.requires.kept.list.2 c.in-Some.ensures))

pub returns-in-Some-clause-records : goal.returns-in-Some-clause-records
returns-in-Some-clause-records g c =
    let after = subst (λ q. Belongs c.restore-at.new.heap.version q c.restore-at.new.heap.state c.restore-at.new.self) (ap (λ (h : HeapMeaning). h.quota) c.restore-at.ensures.heap) c.restore-at.ensures.belongs in
    same_records c.args.heap.now.version c.restore-at.new.heap.version c.args.heap.now.quota c.args.heap.now.state c.restore-at.new.heap.state c.args.chain.now c.restore-at.new.self
    c.requires.belongs after (ap (λ (h : HeapMeaning). h.version) c.restore-at.ensures.heap)
    (ap (λ (x : ChainMeaning). x.base_logs) c.restore-at.ensures.chain)
    (ap (λ (s : ObjectState). s.logs) (c.restore-at.ensures.after ∙ restored_newest c.args.heap.now.state c.args.chain.now.logs c.in-Some.time c.requires.kept.list.2 c.in-Some.ensures))
