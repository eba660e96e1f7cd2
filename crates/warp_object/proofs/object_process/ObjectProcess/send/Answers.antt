use Rattle.std.proofs.Common.{◌<◌, ◌++◌, [], ◌∷◌, ap, sym, subst, ◌∙◌}
use Rattle.warp_base.specs.declared.event.Draft.{Draft}
use Rattle.warp_base.specs.Events.{Each}
use Rattle.warp_base.proofs.Lists.{Each-append}
use Rattle.warp_object.specs.Processes.{inner}
use Rattle.warp_object.proofs.Stepping.{one_event}
use Rattle.warp_object.proofs.object_process.ObjectProcess.send.Goals as goal

pub returns-in_ok-reserve-clause-recorded : goal.returns-in_ok-reserve-clause-recorded
returns-in_ok-reserve-clause-recorded g c =
    let self = c.args.self.now in
    let draft = c.args.draft in
    let h = c.requires.recorded in
    let told = c.in-Some.ensures.event.1 in
    let sent = c.push_reserved.ensures.items ∙ ap (λ l. l ++ draft ∷ []) c.reserve.ensures.items in
    record {
      known = h.known;
      handed_out = λ is_open.
          let out = h.handed_out is_open in
          let same = one_event (inner self) self.reached self.processes self.drafts.items out told.0 c.in-Some.event told.1 told.2 in
          let late = subst (λ t. t < draft.time) (ap (λ e. e.time) (sym same)) c.if-draft-event.false in
          record {
            count = out.count;
            event = out.event;
            at = out.at;
            is = out.is;
            later = subst (Each (λ (d : Draft g.row.P.Denot). out.event.time < d.time)) (sym sent) (Each-append (λ (d : Draft g.row.P.Denot). out.event.time < d.time) self.drafts.items (draft ∷ []) out.later (late, tt));
            within = subst (Each (λ (d : Draft g.row.P.Denot). d.receiver < self.processes)) (sym sent) (Each-append (λ (d : Draft g.row.P.Denot). d.receiver < self.processes) self.drafts.items (draft ∷ []) out.within (c.if-draft-self.false, tt));
          };
    }
