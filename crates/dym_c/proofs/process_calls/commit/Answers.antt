use Rattle.std.proofs.Common.{◌≡◌, ℕ, length, drop, ap, subst, ◌∙◌, true}
use Rattle.dym_undo_object.specs.Meaning.{UndoObjectMeaning}
use Rattle.dym_c.specs.ProcessRuns.{HasCommittedIn}
use Rattle.dym_c.proofs.Exports.{all_committed, not_both}
use Rattle.dym_c.proofs.process_calls.commit.Goals as goal

pub returns-clause-committed : goal.returns-clause-committed
returns-clause-committed c =
    let p = c.args.running.now in
    let o = c.state.inside.object in
    let before = c.args.committed.now.items in
    let out = c.commit.new.out.items in
    let new = c.drop_first.new.list.items in
    let done = c.in-Ok.ensures.committed in
    let left : new ≡ drop (length before) out = c.drop_first.ensures ∙ ap (λ (n : ℕ). drop n out) (c.len-before.ensures ∙ c.args.committed.now.ok.0) in
    let closed : p.is_open ≡ true → ⊥ = λ is. not_both c.commit.result _ _ c.in-Ok.is (c.commit.ensures.open.1 is) in
    subst (λ (x : UndoObjectMeaning). HasCommittedIn x p c.commit.new.object c.commit.new.self c.args.last before new 0 c.args.told.now c.len.result)
    c.state.view_is (all_committed o p c.commit.new.object c.commit.new.self c.args.last before out new c.args.told.now c.len.result left done
    (λ b past h. c.in-Ok.ensures.kept b past done h) (c.len.ensures ∙ c.drop_first.new.list.ok.0) closed c.commit.ensures.rest)
