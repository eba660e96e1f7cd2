use Rattle.std.proofs.Common.{◌≡◌, length, subst, sym, ap, refl, ◌∙◌, arith}
use Rattle.dym_base.specs.Objects.{replies_from}
use Rattle.dym_heap.specs.Meaning.{HeapMeaning, IsSound}
use Rattle.dym_object.specs.Meaning.{state_of}
use Rattle.dym_report.specs.Summary.{tally_with}
use Rattle.dym_report.proofs.Tallies.{length_replies}
use Rattle.dymelor_top.proofs.SummaryFacts.{counted, slots_few, log_list, tally_shown}
use Rattle.dymelor_top.proofs.summary.tally_run.Goals as goal

pub of-requires-clause-few : goal.of-requires-clause-few
of-requires-clause-few c = omega (arith, c.len-replies.ensures, c.in_ok-refused.ensures.within)

pub of-requires-clause-sound : goal.of-requires-clause-sound
of-requires-clause-sound c = subst IsSound (sym c.heap.ensures.heap) c.heap.ensures.sound

pub returns-clause-replies : goal.returns-clause-replies
returns-clause-replies c = omega (arith, c.of.ensures.replies, c.len-replies.ensures)

pub returns-clause-counted : goal.returns-clause-counted
returns-clause-counted c =
    let start = c.args.turn.now.object in
    let now = c.refusals.new.turn.object in
    let v = start.heap.version in
    let q = start.heap.quota in
    let commands = c.args.part.now.commands in
    let replies = replies_from v q (state_of start) commands in
    let all : length replies ≡ c.len-replies.result = omega (arith, c.len-replies.ensures, length_replies v q (state_of start) commands) in
    let live = ap (λ (h : HeapMeaning). h.state.live) c.heap.ensures.heap in
    c.of.ensures.counted replies all (sym c.in_ok-refused.ensures.counted)
    ∙ (λ i. tally_with replies (live i) (c.kept.ensures i) (c.slots.ensures.slots i))
    ∙ ap (counted replies) c.in_ok-refused.ensures.state
    ∙ tally_shown c.args.part.now start commands refl c.requires.quota c.requires.start

pub returns-clause-kept : goal.returns-clause-kept
returns-clause-kept c =
    let lawful =
    log_list c.runs_keep_logs.ensures c.args.turn.now.object c.refusals.new.turn.object c.args.part.now.commands c.requires.start c.in_ok-refused.ensures.state in
    omega (arith, c.of.ensures.kept, c.kept.ensures, lawful.0)

pub returns-clause-slots : goal.returns-clause-slots
returns-clause-slots c =
    let lawful =
    log_list c.runs_keep_logs.ensures c.args.turn.now.object c.refusals.new.turn.object c.args.part.now.commands c.requires.start c.in_ok-refused.ensures.state in
    omega (arith, c.of.ensures.slots, c.slots.ensures.slots, slots_few c.refusals.new.turn.object.chain.logs lawful)
