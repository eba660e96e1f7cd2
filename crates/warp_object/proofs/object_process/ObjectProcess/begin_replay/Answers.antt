use Rattle.std.proofs.Common.{◌<◌, sym, subst, ◌∙◌}
use Rattle.warp_base.specs.declared.event.Draft.{Draft}
use Rattle.warp_base.specs.Events.{Each}
use Rattle.warp_object.proofs.object_process.ObjectProcess.begin_replay.Goals as goal

pub returns-clause-recorded : goal.returns-clause-recorded
returns-clause-recorded g c =
    let now = c.reach.new.self in
    let told = c.in_ok-reached.ensures in
    record {
      known = told.recorded.known;
      handed_out = λ _. record {
        count = c.in_ok-reached.reached;
        event = c.in-Some.event;
        at = told.reached;
        is = sym c.event_at.ensures ∙ c.in-Some.is;
        later = subst (Each (λ (d : Draft g.row.P.Denot). c.in-Some.event.time < d.time)) (sym c.clear.ensures.items) tt;
        within = subst (Each (λ (d : Draft g.row.P.Denot). d.receiver < now.processes)) (sym c.clear.ensures.items) tt;
      };
    }
