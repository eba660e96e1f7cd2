use Rattle.std.proofs.Common.{◌≡◌, ◌+◌, ◌≤◌, All, length, count_by, ap, subst, ◌∙◌, arith, rules}
use Rattle.std.proofs.lemmas.List.Elements.{All-tail}
use Rattle.dym_base.specs.declared.limits.TheConstants.{MOST_LATE_EVENTS}
use Rattle.dym_script.specs.Late.{is_event}
use Rattle.dym_script.specs.LateArrivals.{MayAct}
use Rattle.dymelor_top.specs.LateReport.{outcome_of}
use Rattle.dymelor_top.proofs.LateFacts.{took_none, took_push, told_more, room_later}
use Rattle.dymelor_top.proofs.Yielded.{one_more}
use Rattle.dymelor_top.proofs.late_run.take_all.Goals as goal

pub loop-act-init : goal.loop-act-init
unfolding outcome_of
loop-act-init c =
    let same : c.args.acts.items ≡ c.into_iter-act-iterator.result.rest.items = search rules in
    record {
      took = took_none c.args.late.now c.requires.whole;
      outcome = c.in_ok-outcome.ensures.items;
      acts = same;
      may = subst (All MayAct) same c.requires.acts;
      few = omega (arith, ap length c.requires.events, ap (count_by is_event) same, c.requires.few);
    }

pub loop-act-preserved : goal.loop-act-preserved
loop-act-preserved c =
    let old = c.args.late.now in
    let mid = c.loop-act.late in
    let new = c.take_in.new.late in
    let act = c.in-Some.act in
    let others = c.next.new.self.rest.items in
    let cut = c.in-Some.ensures.steps.0 in
    let before = c.loop-act.invariant in
    record {
      took = took_push old mid new c.loop-act.yielded act before.took c.in_ok-became.ensures.took;
      outcome = c.in_ok-push.ensures.items ∙ told_more old mid c.requires.events c.requires.bound c.loop-act.yielded act c.loop-act.outcome.items
          c.in_ok-became.became before.took before.outcome c.in_ok-became.ensures.outcome;
      acts = one_more c.args.acts.items c.loop-act.yielded _ others act before.acts cut;
      may = All-tail MayAct act others (subst (All MayAct) cut before.may);
      few = room_later mid new MOST_LATE_EVENTS act others (subst (λ l. length mid.events + count_by is_event l ≤ MOST_LATE_EVENTS) cut before.few)
          c.in_ok-became.ensures.took;
    }
