use Rattle.std.proofs.Common.{◌≡◌, ◌+◌, ◌-◌, ◌≤◌, suc, true, false, length, take, drop, ap, sym, subst, ◌∙◌, arith}
use Rattle.warp_base.specs.declared.event.Event.{Event}
use Rattle.warp_base.specs.Events.{Each, IsInOrder, AreFrom}
use Rattle.warp_base.proofs.Lists.{Each-drop}
use Rattle.warp_process.specs.Processes.{face}
use Rattle.warp_process.proofs.InOrder.{count_within}
use Rattle.warp_process.proofs.Catching.{drop_more}
use Rattle.warp_process.proofs.Taking.{events_in_order}
use Rattle.warp_process.proofs.process.Process.is_settled.Goals as goal

pub count_until-count-requires : goal.count_until-count-requires
count_until-count-requires g c =
    let k = c.requires.process in
    subst (IsInOrder g.P.Payload.words) (sym c.deref.ensures.value) (events_in_order g.P.Payload.words g.met.P.Payload.tells_apart k.behaviour k.past (face g.K.StateSaver.state g.K.StateSaver.copies c.args.self.now) k.process)

never : false ≡ true → ⊥
never e = cc

pub returns-then-count-len : goal.returns-then-count-len
returns-then-count-len g c =
    let self = c.args.self.now in
    let count = c.count_until-count.result in
    let within = subst (λ l. count ≤ length l) c.deref.ensures.value c.count_until-count.ensures.within in
    let before = subst (λ l. Each (λ (e : Event g.row.P.Denot). e.time ≤ c.args.last) (take count l)) c.deref.ensures.value c.count_until-count.ensures.before in (
      λ yes. absurd (never yes),
      λ both. let few = count_within c.args.last count (length self.marks.items) self.events.items within before both.0 in absurd (omega (arith, few, c.if-count-len.true, c.len.ensures, self.marks.ok.0)),
    )

pub returns : goal.returns
returns g c =
    let self = c.args.self.now in
    let count = c.count_until-count.result in
    let behind = subst (λ l. AreFrom (suc c.args.last) (drop count l)) c.deref.ensures.value c.count_until-count.ensures.behind in
    let more = length self.marks.items - count in
    let at : count + more ≡ length self.marks.items = omega (arith, c.if-count-len.false, c.len.ensures, self.marks.ok.0) in
    let done = subst (AreFrom (suc c.args.last)) (drop_more count more self.events.items ∙ ap (λ n. drop n self.events.items) at) (Each-drop (λ (e : Event g.row.P.Denot). suc c.args.last ≤ e.time) more (drop count self.events.items) behind) in (
      λ yes. (done, subst (AreFrom (suc c.args.last)) c.deref-2.ensures.value (c.are_later.ensures.0 yes)),
      λ both. c.are_later.ensures.1 (subst (AreFrom (suc c.args.last)) (sym c.deref-2.ensures.value) both.1),
    )
