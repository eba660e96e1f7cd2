use Rattle.std.proofs.Common.{◌≡◌, ◌+◌, ◌<◌, suc, Some, length, refl, ap, sym, subst, ◌∙◌, arith}
use Rattle.std.proofs.lemmas.Bool.{le-ltb}
use Rattle.std.proofs.lemmas.Option.{same_Some, slice_get_within}
use Rattle.warp_base.specs.declared.event.Draft.{Draft}
use Rattle.warp_base.specs.Events.{Each}
use Rattle.warp_process.specs.Processes.{HasPosted}
use Rattle.warp_object.specs.Moments.{dated}
use Rattle.warp_object.specs.Processes.{IsFaceOf, IsKnown, inner, date_of, event_after}
use Rattle.warp_object.proofs.Behaviours.{ready_for}
use Rattle.warp_object.proofs.Ledgers.{closed_recorded}
use Rattle.warp_object.proofs.Opening.{moment_is}
use Rattle.warp_object.proofs.Stepping.{dated_next, next_sent, next_there, oldest_reached, one_event, ran_known, ran_of, replayed_known, replayed_of}
use Rattle.warp_object.proofs.object_process.ObjectProcess.end.Goals as goal

pub returns-then-reached-date-clause-recorded : goal.returns-then-reached-date-clause-recorded
returns-then-reached-date-clause-recorded g c =
    let words = g.P.Payload.words in
    let self = c.args.self.now in
    let f = inner self in
    let n = c.in-true-Some.reached in
    let known = subst (IsKnown words f) c.in-true-Some.is-1 c.requires.recorded.known in
    let few = known.soon n refl in
    let soon : n < date_of f = omega (arith, few, c.if-reached-date.true, c.date.ensures) in
    let next : n + 1 ≡ c.in-Some.next = omega (arith, c.in-Some.ensures) in
    let now = subst (λ k. IsKnown words f (Some k)) next (replayed_known words f n soon known) in
    closed_recorded words c.go_on.new.self (ap (λ v. v.is_open) c.go_on.ensures)
    (subst (λ v. IsKnown words (inner v) v.reached) (sym c.go_on.ensures) now)

pub returns-then-reached-date-clause-kept : goal.returns-then-reached-date-clause-kept
returns-then-reached-date-clause-kept g c b past begun event is_replayed h out logs live drafts =
    let words = g.P.Payload.words in
    let self = c.args.self.now in
    let object = c.args.object.now in
    let f = inner self in
    let n = c.in-true-Some.reached in
    let known = subst (IsKnown words f) c.in-true-Some.is-1 c.requires.recorded.known in
    let few = known.soon n refl in
    let soon : n < date_of f = omega (arith, few, c.if-reached-date.true, c.date.ensures) in
    let next : n + 1 ≡ c.in-Some.next = omega (arith, c.in-Some.ensures) in
    let late = oldest_reached words f (Some n) n known refl in
    let there = ap (event_after f) (same_Some n out.0 (sym c.in-true-Some.is-1 ∙ out.1)) ∙ out.2 in
    let now = replayed_of words f n b past begun object event late soon there logs live (subst (IsFaceOf words b past begun f) c.in-true-Some.is-1 h) in
    subst (λ v. IsFaceOf words b past object (inner v) v.reached) (sym c.go_on.ensures) (subst (λ k. IsFaceOf words b past object f (Some k)) next now)

pub run_given-requires : goal.run_given-requires
run_given-requires g c =
    let self = c.args.self.now in
    let f = inner self in
    let n = c.in-true-Some.reached in
    let out = c.requires.recorded.handed_out c.in-true-Some.is-0 in
    let at : date_of f ≡ n = omega (arith, c.if-reached-date.false, c.date.ensures) in
    let there = next_there f n at ∙ ap (event_after f) (same_Some n out.count (sym c.in-true-Some.is-1 ∙ out.at)) ∙ out.is in
    record { more = slice_get_within f.events (length f.marks) out.event there }

pub returns-clause-recorded : goal.returns-clause-recorded
returns-clause-recorded g c =
    let words = g.P.Payload.words in
    let self = c.args.self.now in
    let f = inner self in
    let ran = c.in_ok-run_given.ensures in
    let mid = record self { process = c.run_given.new.self } in
    let n = c.in-true-Some.reached in
    let h = c.requires.recorded in
    let out = h.handed_out c.in-true-Some.is-0 in
    let at : date_of f ≡ n = omega (arith, c.if-reached-date.false, c.date.ensures) in
    let there = next_there f n at ∙ ap (event_after f) (same_Some n out.count (sym c.in-true-Some.is-1 ∙ out.at)) ∙ out.is in
    let live = c.args.object.now.heap.state.live in
    let ready = ready_for words f self.reached h.known live self.drafts.items out.event out.later in
    let dated : c.in-Some.next ≡ suc (date_of f) = omega (arith, c.in-Some.ensures, at) in
    let state = moment_is c.after-state.result (suc (date_of f)) live (c.after-state.ensures ∙ ap (λ k. (k, live)) dated) in
    let now = ran.kept ready.behaviour ready.past out.event ready.process there (state ∙ ready.after) (c.deref.ensures.value ∙ ready.drafts) (ready.faultless c.after-state.result) in
    let next : n + 1 ≡ c.in-Some.next = omega (arith, c.in-Some.ensures) in
    let first = ap (λ v. v.first_date) ran.rest in
    let fossils = ap (λ v. length v.fossils.items) ran.rest in
    let marks = ran.ran in
    let date : date_of (inner mid) ≡ n + 1 = omega (arith, first, fossils, marks, at) in
    let known = ran_known words f (inner mid) n (sym at) date (ap (λ v. v.items) ran.copies) (subst (IsKnown words f) c.in-true-Some.is-1 h.known) ready.behaviour ready.past (record { looks_ahead = ready.looks_ahead; starts = ready.starts; counts = ready.counts; faultless = ready.faultless }) now in
    closed_recorded words c.go_on-2.new.self (ap (λ v. v.is_open) c.go_on-2.ensures)
    (subst (λ v. IsKnown words (inner v) v.reached) (sym c.go_on-2.ensures) (subst (λ k. IsKnown words (inner mid) (Some k)) next known))

pub returns-clause-kept : goal.returns-clause-kept
returns-clause-kept g c b past begun event is_replayed h out logs live drafts =
    let words = g.P.Payload.words in
    let self = c.args.self.now in
    let object = c.args.object.now in
    let f = inner self in
    let ran = c.in_ok-run_given.ensures in
    let mid = record self { process = c.run_given.new.self } in
    let n = c.in-true-Some.reached in
    let at : date_of f ≡ n = omega (arith, c.if-reached-date.false, c.date.ensures) in
    let r_is = same_Some n out.0 (sym c.in-true-Some.is-1 ∙ out.1) in
    let there = next_there f n at ∙ ap (event_after f) r_is ∙ out.2 in
    let here = subst (IsFaceOf words b past begun f) c.in-true-Some.is-1 h in
    let fresh = out.3 ∙ le-ltb out.0 (date_of f) (omega (arith, at, r_is)) in
    let next : n + 1 ≡ c.in-Some.next = omega (arith, c.in-Some.ensures) in
    let seen = c.after-state.ensures ∙ ap (λ k. (k, object.heap.state.live)) (sym next) in
    let before = here.state n refl in
    let state = moment_is c.after-state.result (n + 1) object.heap.state.live seen ∙ dated_next words b past f h.process n (sym at) begun.heap.state.live object.heap.state.live event before live in
    let sent = c.deref.ensures.value ∙ next_sent words b past f h.process n (sym at) begun.heap.state.live event before self.drafts.items (drafts fresh) in
    let now = ran.kept (dated b) past event h.process there state sent refl in
    let first = ap (λ v. v.first_date) ran.rest in
    let fossils = ap (λ v. length v.fossils.items) ran.rest in
    let marks = ran.ran in
    let date : date_of (inner mid) ≡ n + 1 = omega (arith, first, fossils, marks, at) in
    let all = ran_of words f (inner mid) n (sym at) date (ap (λ v. v.items) ran.copies) b past begun object logs ran.fresh (ap (λ m. m.seen) ran.state ∙ seen) now here in
    subst (λ v. IsFaceOf words b past object (inner v) v.reached) (sym c.go_on-2.ensures) (subst (λ k. IsFaceOf words b past object (inner mid) (Some k)) next all)

pub returns-clause-posted : goal.returns-clause-posted
returns-clause-posted g c event is_replayed out =
    let words = g.P.Payload.words in
    let self = c.args.self.now in
    let handed = c.requires.recorded.handed_out c.in-true-Some.is-0 in
    let same = one_event (inner self) self.reached self.processes self.drafts.items handed out.0 event out.1 out.2 in
    let later = subst (λ e. Each (λ (d : Draft g.row.P.Denot). e.time < d.time) self.drafts.items) same handed.later in
    let posted = c.in_ok-run_given.ensures.posted event.time (subst (Each (λ (d : Draft g.row.P.Denot). event.time < d.time)) (sym c.deref.ensures.value) later) in
    subst (λ v. HasPosted words event.time self.process.sent.items v.process.sent.items c.args.out.now.items c.run_given.new.out.items) (sym c.go_on-2.ensures) posted
