use Rattle.std.proofs.Common.{Err, ◌≡◌, ◌<◌, ◌++◌, ◌∷◌, [], Some, ap, sym, subst, ◌∙◌, arith}
use Rattle.dym_base.specs.declared.command.Kind.TheVariants.{Inc}
use Rattle.dym_base.specs.Objects.{log}
use Rattle.dym_undo.specs.Answers.{IsLogAnswer}
use Rattle.dym_undo.specs.declared.log_error.LogError.{LogError}
use Rattle.dym_undo_object.specs.Meaning.{state_of}
use Rattle.warp_process.proofs.Catching.{all_older, copy_bounds}
use Rattle.warp_object.specs.Moments.{dated}
use Rattle.warp_object.specs.Processes.{IsFaceOf, IsKnown, inner, date_of}
use Rattle.warp_object.proofs.Keeping.{logs_before, logged_known, logged_of, logged_process}
use Rattle.warp_object.proofs.Ledgers.{closed_recorded}
use Rattle.warp_object.proofs.Logs.{refused_full}
use Rattle.warp_object.proofs.object_process.ObjectProcess.log_if_due.Goals as goal

pub overflow_sub-behind : goal.overflow_sub-behind
overflow_sub-behind g c =
    let k = c.requires.recorded.known in
    let bounds = copy_bounds g.P.Payload.words k.behaviour k.past (inner c.args.self.now) k.process c.newest_copy.result c.newest_copy.ensures.0 c.newest_copy.ensures.1 in
    let soon = bounds.soon in
    omega (arith, soon)

pub keep_copy-requires-clause-newest : goal.keep_copy-requires-clause-newest
keep_copy-requires-clause-newest g c =
    let k = c.requires.recorded.known in
    let f = inner c.args.self.now in
    let less : c.newest_copy.result < date_of f = omega arith in
    all_older g.P.Payload.words k.behaviour k.past f k.process c.newest_copy.result (date_of f) c.newest_copy.ensures.0 c.newest_copy.ensures.1 less

pub returns-in_err-keep_copy-clause-recorded : goal.returns-in_err-keep_copy-clause-recorded
returns-in_err-keep_copy-clause-recorded g c =
    let words = g.P.Payload.words in
    let self = c.args.self.now in
    closed_recorded words (record self { process = c.keep_copy.new.self }) c.requires.closed
    (subst (λ x. IsKnown words x self.reached) (sym c.in_err-keep_copy.ensures.err) c.requires.recorded.known)

pub returns-in_err-keep_copy-clause-kept : goal.returns-in_err-keep_copy-clause-kept
returns-in_err-keep_copy-clause-kept g c b past h =
    subst (λ x. IsFaceOf g.P.Payload.words b past c.args.object.now x c.args.self.now.reached) (sym c.in_err-keep_copy.ensures.err) h

pub returns-in-Ok-clause-recorded : goal.returns-in-Ok-clause-recorded
returns-in-Ok-clause-recorded g c =
    let words = g.P.Payload.words in
    let self = c.args.self.now in
    let mid = record self { process = c.keep_copy.new.self } in
    let f = inner self in
    let k = c.requires.recorded.known in
    let date = c.date-date.result in
    let date_is : date ≡ date_of f = c.date-date.ensures in
    let fresh = sym c.is_stale.ensures ∙ c.if-is_stale.false in
    let at = k.fresh fresh ∙ ap Some (sym date_is) in
    let less : c.newest_copy.result < date = omega arith in
    let older = all_older words k.behaviour k.past f k.process c.newest_copy.result date c.newest_copy.ensures.0 c.newest_copy.ensures.1 less in
    let more = c.in_ok-keep_copy.ensures.ok ∙ ap (λ n. record f { copies = f.copies ++ (n, f.state) ∷ [] }) (sym date_is) in
    let here = subst (IsKnown words f) at k in
    let now = logged_process words f (inner mid) here.behaviour here.past date date_is fresh more older here.process in
    let known = logged_known words f (inner mid) date date_is more here now in
    closed_recorded words mid c.requires.closed (subst (IsKnown words (inner mid)) (sym at) known)

pub returns-in-Ok-clause-kept : goal.returns-in-Ok-clause-kept
returns-in-Ok-clause-kept g c b past h =
    let words = g.P.Payload.words in
    let self = c.args.self.now in
    let old = c.args.object.now in
    let object = c.ilog.new.self in
    let mid = record self { process = c.keep_copy.new.self } in
    let f = inner self in
    let k = c.requires.recorded.known in
    let date = c.date-date.result in
    let date_is : date ≡ date_of f = c.date-date.ensures in
    let fresh = sym c.is_stale.ensures ∙ c.if-is_stale.false in
    let at = k.fresh fresh ∙ ap Some (sym date_is) in
    let less : c.newest_copy.result < date = omega arith in
    let older = all_older words k.behaviour k.past f k.process c.newest_copy.result date c.newest_copy.ensures.0 c.newest_copy.ensures.1 less in
    let more = c.in_ok-keep_copy.ensures.ok ∙ ap (λ n. record f { copies = f.copies ++ (n, f.state) ∷ [] }) (sym date_is) in
    let now = logged_process words f (inner mid) (dated b) past date date_is fresh more older h.process in
    subst (IsFaceOf words b past object (inner mid)) (sym at)
    (logged_of words f (inner mid) b past old object old.heap.version Inc c.in-Ok.field-0 date date_is c.in-Ok.ensures.answer c.in-Ok.ensures.step.object fresh more now (subst (IsFaceOf words b past old f) at h))

pub returns-in_default-clause-astray : goal.returns-in_default-clause-astray
returns-in_default-clause-astray g c b past h is =
    let words = g.P.Payload.words in
    let self = c.args.self.now in
    let old = c.args.object.now in
    let f = inner self in
    let k = c.requires.recorded.known in
    let date = c.date-date.result in
    let date_is : date ≡ date_of f = c.date-date.ensures in
    let fresh = sym c.is_stale.ensures ∙ c.if-is_stale.false in
    let at = k.fresh fresh ∙ ap Some (sym date_is) in
    let less : c.newest_copy.result < date = omega arith in
    let older = all_older words k.behaviour k.past f k.process c.newest_copy.result date c.newest_copy.ensures.0 c.newest_copy.ensures.1 less in
    let before = logs_before words f f b past old date date older (subst (IsFaceOf words b past old f) at h) in
    let told = subst (λ (e : LogError). IsLogAnswer (Err e) (log old.heap.version (state_of old) date Inc).reply) c.in-Refused.is c.in-Err.ensures.answer in
    c.in_default.not-LogsFull (refused_full old.heap.version (state_of old) date Inc _ before told)
