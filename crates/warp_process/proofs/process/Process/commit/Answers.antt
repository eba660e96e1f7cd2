use Rattle.std.proofs.Common.{◌≡◌, ◌+◌, ◌-◌, ◌≤◌, ◌++◌, length, take, ap, sym, subst, ◌∙◌, arith}
use Rattle.warp_base.specs.declared.event.Event.{Event}
use Rattle.warp_base.specs.Events.{Each, IsInOrder}
use Rattle.warp_process.specs.Savers.{KeepsFrom}
use Rattle.warp_process.specs.Processes.{face, IsProcess, HasCommitted}
use Rattle.warp_process.proofs.InOrder.{count_within}
use Rattle.warp_process.proofs.Taking.{events_in_order}
use Rattle.warp_process.proofs.process.Process.commit.Goals as goal

pub count_until-count-requires : goal.count_until-count-requires
count_until-count-requires g c =
    let k = c.requires.process in
    subst (IsInOrder g.P.Payload.words) (sym c.deref.ensures.value) (events_in_order g.P.Payload.words g.met.P.Payload.tells_apart k.behaviour k.past (face g.K.StateSaver.state g.K.StateSaver.copies c.args.self.now) k.process)

pub hand_over-requires-clause-before : goal.hand_over-requires-clause-before
hand_over-requires-clause-before g c =
    subst (λ l. Each (λ (e : Event g.row.P.Denot). e.time ≤ c.args.last) (take c.count_until-count.result l)) c.deref.ensures.value c.count_until-count.ensures.before

pub hand_over-requires-clause-within : goal.hand_over-requires-clause-within
hand_over-requires-clause-within g c =
    let self = c.args.self.now in
    let count = c.count_until-count.result in
    let within = subst (λ l. count ≤ length l) c.deref.ensures.value c.count_until-count.ensures.within in
    let before = subst (λ l. Each (λ (e : Event g.row.P.Denot). e.time ≤ c.args.last) (take count l)) c.deref.ensures.value c.count_until-count.ensures.before in
    count_within c.args.last count (length self.marks.items) self.events.items within before c.requires.ran

pub prune-requires : goal.prune-requires
prune-requires g c =
    let k = c.requires.process in
    let f = face g.K.StateSaver.state g.K.StateSaver.copies c.args.self.now in
    let now = subst (λ l. IsProcess g.P.Payload.words k.behaviour k.past (record f { fossils = l })) (sym c.reserve.ensures.items) k.process in
    record { process = record { behaviour = k.behaviour; past = k.past ++ c.hand_over.ensures.committed.gone; looks_ahead = k.looks_ahead; process = c.hand_over.ensures.committed.process k.behaviour k.past now } }

pub returns-clause-committed : goal.returns-clause-committed
returns-clause-committed g c =
    let words = g.P.Payload.words in
    let self = c.args.self.now in
    let f = face g.K.StateSaver.state g.K.StateSaver.copies self in
    let done = c.hand_over.ensures.committed in
    let now = c.prune.new.self in
    subst (λ v. HasCommitted words c.args.last f (face g.K.StateSaver.state g.K.StateSaver.copies v) c.args.out.now.items c.hand_over.new.out.items) (sym c.prune.ensures.rest) (record {
      gone = done.gone;
      handed = done.handed ∙ ap (λ l. l ++ done.gone) c.reserve-2.ensures.items;
      whole = done.whole;
      before = done.before;
      behind = done.behind;
      same_done = done.same_done;
      process = λ b past h.
          let start = subst (λ l. IsProcess words b past (record f { fossils = l })) (sym c.reserve.ensures.items) h in
          subst (λ v. IsProcess words b (past ++ done.gone) (face g.K.StateSaver.state g.K.StateSaver.copies v)) c.prune.ensures.rest (c.prune.ensures.kept b (past ++ done.gone) (done.process b past start));
      marks = done.marks;
      last = done.last;
      early = done.early;
      number = done.number;
    })

pub returns-clause-pruned : goal.returns-clause-pruned
returns-clause-pruned g c =
    let self = c.args.self.now in
    let copies = g.K.StateSaver.copies in
    let mid = c.hand_over.new.self in
    let now = c.prune.new.self in
    let rest = c.hand_over.ensures.rest in
    let date = c.hand_over.ensures.date in
    let fossils = ap length c.reserve.ensures.items in
    let marks = c.hand_over.ensures.committed.marks in
    let same_marks = ap (λ v. length v.marks.items) c.prune.ensures.rest in
    let first : mid.first_date ≡ self.first_date = ap (λ v. v.first_date) rest in
    let before : mid.first_date + length mid.fossils.items ≡ self.first_date + length self.fossils.items + (length self.marks.items - length now.marks.items) = omega (arith, first, date, fossils, marks, same_marks) in
    subst (λ l. KeepsFrom l (self.first_date + length self.fossils.items + (length self.marks.items - length now.marks.items)) now.first_date (copies now.saver)) (ap (λ v. copies v.saver) rest)
    (subst (λ n. KeepsFrom (copies mid.saver) n now.first_date (copies now.saver)) before c.prune.ensures.copies)

pub returns-clause-state : goal.returns-clause-state
returns-clause-state g c =
    (c.prune.ensures.state ∙ ap (λ v. g.K.StateSaver.state v.saver) c.hand_over.ensures.rest, ap (λ v. v.is_stale) c.prune.ensures.rest ∙ ap (λ v. v.is_stale) c.hand_over.ensures.rest)
