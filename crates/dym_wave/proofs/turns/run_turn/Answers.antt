use Rattle.std.proofs.Common.{◌<◌, true, false, rules, length, refl, sym, ap, subst, ◌∙◌, arith}
use Rattle.std.specs.Prelude.{IfSome, is_err}
use Rattle.dym_object.specs.Meaning.{ObjectMeaning, state_of}
use Rattle.dym_wave.specs.Publications.{IsPublished}
use Rattle.dym_wave.specs.States.{RanFirst}
use Rattle.dym_wave.specs.Works.{ObjectOrigin, object_origin}
use Rattle.dym_wave.proofs.Publishing.{few_commits, may_come_next, turned, turned_short, unless_err}
use Rattle.dym_wave.proofs.Runs.{ran_state}
use Rattle.dym_wave.proofs.Sights.{more_grows, still_grows}
use Rattle.dym_wave.proofs.turns.run_turn.Goals as goal

pub publish_where_told-requires : goal.publish_where_told-requires
publish_where_told-requires g c =
    let old = c.args.turn.now.object in
    let commands = c.args.spec.now.commands in
    let m = length c.args.replies.now.replies in
    let more = c.run_some.new.replies in
    let mid = c.run_some.new.turn.object in
    let is = ran_state commands old mid more c.run_some.ensures.origin c.run_some.ensures.ran in
    record {
      room = few_commits old.heap.version old.heap.quota commands m false c.args.publisher.now (omega (arith, c.requires.few, c.requires.left)) c.requires.published;
      later = may_come_next old.heap.version old.heap.quota commands m (length more.replies) (state_of mid) false c.args.publisher.now
          c.run_some.ensures.grown is refl c.requires.published;
    }

pub returns-in_err-run_some-clause-published : goal.returns-in_err-run_some-clause-published
returns-in_err-run_some-clause-published g c =
    let old = c.args.turn.now.object in
    let commands = c.args.spec.now.commands in
    let n = length c.run_some.new.replies.replies in
    subst (λ b. IfSome c.args.publisher.now (IsPublished c.run_some.new.turn.object.heap.version c.run_some.new.turn.object.heap.quota commands n b)) (search rules)
    (subst (λ (o : ObjectOrigin). IfSome c.args.publisher.now (IsPublished o.version o.quota commands n true)) (sym c.run_some.ensures.origin)
    (turned_short old.heap.version old.heap.quota commands (length c.args.replies.now.replies) n false c.args.publisher.now c.run_some.ensures.grown
    c.requires.published))

pub returns-in_err-run_some-clause-view : goal.returns-in_err-run_some-clause-view
returns-in_err-run_some-clause-view g c = still_grows c.args.publisher.now

pub returns-clause-ran : goal.returns-clause-ran
returns-clause-ran g c =
    subst (λ (o : ObjectMeaning). RanFirst c.args.spec.now.commands o c.run_some.new.replies) (sym c.publish_where_told.ensures.object) c.run_some.ensures.ran

pub returns-clause-published : goal.returns-clause-published
returns-clause-published g c =
    let old = c.args.turn.now.object in
    let commands = c.args.spec.now.commands in
    let m = length c.args.replies.now.replies in
    let more = c.run_some.new.replies in
    let n = length more.replies in
    let mid = c.run_some.new.turn.object in
    let is = ran_state commands old mid more c.run_some.ensures.origin c.run_some.ensures.ran in
    let shown = c.publish_where_told in
    let same = ap object_origin shown.ensures.object ∙ c.run_some.ensures.origin in
    let further : m < n = omega (arith, c.in_ok-run_some.ensures, c.requires.left, c.requires.quantum) in
    subst (λ (o : ObjectOrigin). IfSome shown.new.publisher (IsPublished o.version o.quota commands n (is_err shown.result))) (sym same)
    (turned old.heap.version old.heap.quota commands m n (state_of mid) false (is_err shown.result) c.args.publisher.now shown.new.publisher
    further is c.requires.published shown.ensures.more (λ long. unless_err shown.result (is_err shown.result) refl long shown.ensures.shown))

pub returns-clause-view : goal.returns-clause-view
returns-clause-view g c = more_grows _ c.args.publisher.now c.publish_where_told.new.publisher c.publish_where_told.ensures.more
