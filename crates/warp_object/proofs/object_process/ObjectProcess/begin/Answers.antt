use Rattle.std.proofs.Common.{◌<◌, Some, ap, sym, subst, ◌∙◌}
use Rattle.warp_base.specs.declared.event.Draft.{Draft}
use Rattle.warp_base.specs.Events.{Each}
use Rattle.warp_object.specs.Processes.{inner, event_after}
use Rattle.warp_object.proofs.Stepping.{oldest_reached, at_end}
use Rattle.warp_object.proofs.object_process.ObjectProcess.begin.Goals as goal

pub event_at-requires : goal.event_at-requires
event_at-requires g c =
    let now = c.reach.new.self in
    let told = c.in_ok-reached.ensures in
    oldest_reached g.P.Payload.words (inner now) now.reached c.in_ok-reached.reached told.recorded.known told.reached

pub returns-in_default-clause-none : goal.returns-in_default-clause-none
returns-in_default-clause-none g c =
    let words = g.P.Payload.words in
    let now = c.reach.new.self in
    let told = c.in_ok-reached.ensures in
    let known = told.recorded.known in
    let late = oldest_reached words (inner now) now.reached c.in_ok-reached.reached known told.reached in
    let soon = known.soon c.in_ok-reached.reached told.reached in
    let last = at_end words known.behaviour known.past (inner now) known.process c.in_ok-reached.reached late soon (sym c.in_default.ensures) in
    (told.reached ∙ ap Some last.date, last.none, ap (λ v. v.is_open) told.rest ∙ c.if-self.false)

pub returns-clause-recorded : goal.returns-clause-recorded
returns-clause-recorded g c =
    let now = c.log_if_due.new.self in
    let told = c.in_ok-log_if_due.ensures in
    let reached = c.in_ok-reached in
    let n = reached.reached in
    record {
      known = told.recorded.known;
      handed_out = λ _. record {
        count = n;
        event = c.in-Some.event;
        at = ap (λ v. v.reached) told.others ∙ reached.ensures.reached;
        is = ap (λ x. event_after x n) told.rest ∙ sym c.event_at.ensures ∙ c.in-Some.is;
        later = subst (Each (λ (d : Draft g.row.P.Denot). c.in-Some.event.time < d.time)) (sym c.clear.ensures.items) tt;
        within = subst (Each (λ (d : Draft g.row.P.Denot). d.receiver < now.processes)) (sym c.clear.ensures.items) tt;
      };
    }
