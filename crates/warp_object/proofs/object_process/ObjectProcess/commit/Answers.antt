use Rattle.std.proofs.Common.{ap, ◌∙◌}
use Rattle.dym_base.specs.Objects.{prune}
use Rattle.dym_undo_object.specs.Meaning.{state_of}
use Rattle.warp_object.specs.Processes.{inner}
use Rattle.warp_object.proofs.Keeping.{committed_known, committed_of}
use Rattle.warp_object.proofs.Ledgers.{closed_recorded}
use Rattle.warp_object.proofs.object_process.ObjectProcess.commit.Goals as goal

pub returns-clause-recorded : goal.returns-clause-recorded
returns-clause-recorded g c =
    let words = g.P.Payload.words in
    let self = c.args.self.now in
    let now = record self { process = c.commit.new.self } in
    let told = c.in_ok-commit.ensures in
    closed_recorded words now c.if-self.false
    (committed_known words (inner self) (inner now) self.reached c.args.last c.args.out.now.items c.commit.new.out.items told.committed _ told.pruned told.state.1 c.requires.recorded.known)

pub returns-clause-kept : goal.returns-clause-kept
returns-clause-kept g c b past done h =
    let words = g.P.Payload.words in
    let self = c.args.self.now in
    let old = c.args.object.now in
    let now = record self { process = c.commit.new.self } in
    let told = c.in_ok-commit.ensures in
    let step = c.prune.ensures.step.object ∙ ap (λ n. (prune (state_of old) n).object) c.oldest_copy.ensures in
    committed_of words (inner self) (inner now) self.reached c.args.last c.args.out.now.items c.commit.new.out.items done _ told.pruned b past old c.prune.new.self step h
