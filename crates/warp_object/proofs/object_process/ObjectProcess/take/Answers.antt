use Rattle.std.proofs.Common.{length, ap, sym, subst, ◌∙◌, arith}
use Rattle.warp_object.specs.Moments.{dated}
use Rattle.warp_object.specs.Processes.{IsFaceOf, IsKnown, inner, date_of}
use Rattle.warp_object.proofs.Ledgers.{closed_recorded, undone_of, undone_known}
use Rattle.warp_object.proofs.object_process.ObjectProcess.take.Goals as goal

pub returns-in-Ok-clause-recorded : goal.returns-in-Ok-clause-recorded
returns-in-Ok-clause-recorded g c =
    let words = g.P.Payload.words in
    let self = c.args.self.now in
    let mid = record self { process = c.take.new.self } in
    let done = c.in-Ok.ensures in
    let undone = c.forget_undone.ensures in
    let known = undone_known (inner self) (inner mid) self.reached c.forget_undone.new.self.reached done.keeps undone.kept words done.kept c.requires.recorded.known in
    closed_recorded words c.forget_undone.new.self (ap (λ v. v.is_open) undone.rest ∙ c.if-self.false)
    (subst (λ v. IsKnown words (inner v) v.reached) (sym undone.rest) known)

pub returns-in-Ok-clause-kept : goal.returns-in-Ok-clause-kept
returns-in-Ok-clause-kept g c b past object h =
    let words = g.P.Payload.words in
    let self = c.args.self.now in
    let mid = record self { process = c.take.new.self } in
    let done = c.in-Ok.ensures in
    let undone = c.forget_undone.ensures in
    let now = undone_of (inner self) (inner mid) self.reached c.forget_undone.new.self.reached done.keeps undone.kept words b past object c.requires.recorded.known.late done.number (done.kept (dated b) past h.process) h in
    subst (λ v. IsFaceOf words b past object (inner v) v.reached) (sym undone.rest) now

pub returns-in-Ok-clause-fewer : goal.returns-in-Ok-clause-fewer
returns-in-Ok-clause-fewer g c =
    let keeps = c.in-Ok.ensures.keeps in
    let few = keeps.few in
    let first = keeps.first_date in
    let fossils = ap length keeps.fossils in
    let rest = ap (λ v. date_of (inner v)) c.forget_undone.ensures.rest in
    omega (arith, few, first, fossils, rest)
