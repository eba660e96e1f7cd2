use Rattle.std.proofs.Common.{◌≡◌, ◌≤◌, false, Some, slice_get, length, take, drop, ap, sym, subst, ◌∙◌, arith}
use Rattle.warp_base.specs.Events.{Each, precedes, copies, IsBefore, IsInOrder}
use Rattle.warp_process.specs.Processes.{face, bound_of, KeepsFirst}
use Rattle.warp_process.proofs.Outgoing.{nothing_sent}
use Rattle.warp_process.proofs.Taking.{events_in_order, early_less, put_in, same_events, behind_from, copies-remove, copies-insert}
use Rattle.std.specs.List.{insert}
use Rattle.warp_process.proofs.Undoing.{undoes_insert}
use Rattle.warp_process.proofs.Keeping.{keeps_all, keeps_insert}
use Rattle.warp_process.proofs.process.Process.take_event.Goals as goal

pub returns-in-Some-clause-kept : goal.returns-in-Some-clause-kept
returns-in-Some-clause-kept g c b past h =
    let self = c.args.self.now in
    let there : slice_get self.early.items c.in-Some.place ≡ Some c.args.event = sym (ap (λ l. slice_get l c.in-Some.place) c.deref.ensures.value) ∙ c.in-Some.ensures.found in
    early_less g.P.Payload.words g.met.P.Payload.tells_apart b past (face g.K.StateSaver.state g.K.StateSaver.copies self) h c.args.event c.in-Some.place c.remove.new.self.items there c.remove.ensures.items

pub returns-in-Some-clause-taken : goal.returns-in-Some-clause-taken
returns-in-Some-clause-taken g c e =
    let self = c.args.self.now in
    let words = g.P.Payload.words in
    let there : slice_get self.early.items c.in-Some.place ≡ Some c.args.event = sym (ap (λ l. slice_get l c.in-Some.place) c.deref.ensures.value) ∙ c.in-Some.ensures.found in
    let count = copies-remove words e c.args.event self.early.items c.in-Some.place there in
    let new = ap (copies words e) c.remove.ensures.items in
    omega (arith, count, new)

pub returns-in-Some-clause-posted : goal.returns-in-Some-clause-posted
returns-in-Some-clause-posted g c = nothing_sent g.P.Payload.words c.args.event.time c.args.self.now.sent.items c.args.out.now.items

pub find_place-place-requires : goal.find_place-place-requires
find_place-place-requires g c =
    let k = c.requires.process in
    subst (IsInOrder g.P.Payload.words) (sym c.deref-2.ensures.value) (events_in_order g.P.Payload.words g.met.P.Payload.tells_apart k.behaviour k.past (face g.K.StateSaver.state g.K.StateSaver.copies c.args.self.now) k.process)

pub returns-clause-kept : goal.returns-clause-kept
returns-clause-kept g c b past h =
    let words = g.P.Payload.words in
    let tells = g.met.P.Payload.tells_apart in
    let self = c.args.self.now in
    let now = c.roll_back.new.self in
    let e = c.args.event in
    let place = c.find_place-place.result in
    let f = face g.K.StateSaver.state g.K.StateSaver.copies self in
    let events : now.events.items ≡ self.events.items = ap (λ v. v.items) c.in_ok-roll_back.ensures.events ∙ c.reserve.ensures.items in
    let from : c.deref-2.result.now ≡ now.events.items = c.deref-2.ensures.value ∙ sym events in
    let before = subst (λ l. Each (λ x. precedes words e x ≡ false) (take place l)) from c.find_place-place.ensures.before in
    let behind = subst (λ l. IsBefore words e (drop place l)) from c.find_place-place.ensures.behind in
    let within = subst (λ l. place ≤ length l) from c.find_place-place.ensures.within in
    let none : copies words e now.early.items ≡ 0 = ap (λ v. copies words e v.items) c.in_ok-roll_back.ensures.early ∙ sym (ap (copies words e) c.deref.ensures.value) ∙ c.in_default.ensures.missing in
    let late = subst (λ t. bound_of t ≤ e.time) (sym c.in_ok-roll_back.ensures.last) c.requires.late in
    put_in words tells b past (face g.K.StateSaver.state g.K.StateSaver.copies now) (c.in_ok-roll_back.ensures.kept b past (same_events words tells b past f h c.reserve.new.self.items c.reserve.ensures.items)) e place c.insert.new.self.items
    (c.requires.own ∙ sym c.in_ok-roll_back.ensures.number) late within before behind (let undone = c.in_ok-roll_back.ensures.undone in omega (arith, undone)) none c.in-Ok.ensures.items

pub returns-clause-taken : goal.returns-clause-taken
returns-clause-taken g c e =
    let words = g.P.Payload.words in
    let now = c.roll_back.new.self in
    let events = ap (copies words e) (ap (λ v. v.items) c.in_ok-roll_back.ensures.events ∙ c.reserve.ensures.items) in
    let early = ap (λ v. copies words e v.items) c.in_ok-roll_back.ensures.early in
    let count = copies-insert words e c.args.event now.events.items c.find_place-place.result in
    let new = ap (copies words e) c.in-Ok.ensures.items in
    omega (arith, count, new, events, early)

pub returns-clause-posted : goal.returns-clause-posted
returns-clause-posted g c =
    let words = g.P.Payload.words in
    let e = c.args.event in
    let place = c.find_place-place.result in
    let from = c.deref-2.ensures.value ∙ sym c.reserve.ensures.items in
    let behind = subst (λ l. IsBefore words e (drop place l)) from c.find_place-place.ensures.behind in
    c.in_ok-roll_back.ensures.posted e.time (behind_from words e (drop place c.reserve.new.self.items) behind)

pub returns-clause-undone : goal.returns-clause-undone
returns-clause-undone g c =
    let words = g.P.Payload.words in
    let self = c.args.self.now in
    let e = c.args.event in
    let place = c.find_place-place.result in
    let behind = subst (λ l. IsBefore words e (drop place l)) c.deref-2.ensures.value c.find_place-place.ensures.behind in
    let within = subst (λ l. place ≤ length l) c.deref-2.ensures.value c.find_place-place.ensures.within in
    let events : c.roll_back.new.self.events.items ≡ self.events.items = ap (λ v. v.items) c.in_ok-roll_back.ensures.events ∙ c.reserve.ensures.items in
    undoes_insert e place (face g.K.StateSaver.state g.K.StateSaver.copies self) (face g.K.StateSaver.state g.K.StateSaver.copies (record c.roll_back.new.self { events = c.insert.new.self })) (c.in-Ok.ensures.items ∙ ap (λ l. insert l place e) events) c.in_ok-roll_back.ensures.undone within (behind_from words e (drop place self.events.items) behind)

pub returns-in-Some-clause-keeps : goal.returns-in-Some-clause-keeps
returns-in-Some-clause-keeps g c =
    let k = c.requires.process in
    let all = keeps_all g.P.Payload.words k.behaviour k.past (face g.K.StateSaver.state g.K.StateSaver.copies c.args.self.now) k.process in
    record { few = all.few; ran = all.ran; first_date = all.first_date; fossils = all.fossils; copies = all.copies; state = all.state; fresh = all.fresh }

pub returns-clause-keeps : goal.returns-clause-keeps
returns-clause-keeps g c =
    let self = c.args.self.now in
    let now = c.roll_back.new.self in
    let place = c.find_place-place.result in
    let f = face g.K.StateSaver.state g.K.StateSaver.copies self in
    let events : now.events.items ≡ self.events.items = ap (λ v. v.items) c.in_ok-roll_back.ensures.events ∙ c.reserve.ensures.items in
    let within : place ≤ length now.events.items = subst (λ l. place ≤ length l) (c.deref-2.ensures.value ∙ sym events) c.find_place-place.ensures.within in
    let k = c.in_ok-roll_back.ensures.keeps in
    let back : KeepsFirst f (face g.K.StateSaver.state g.K.StateSaver.copies now) = record { few = k.few; ran = k.ran ∙ ap (take (length now.marks.items)) c.reserve.ensures.items; first_date = k.first_date; fossils = k.fossils; copies = k.copies; state = k.state; fresh = k.fresh } in
    keeps_insert f (face g.K.StateSaver.state g.K.StateSaver.copies now) back place (let undone = c.in_ok-roll_back.ensures.undone in omega (arith, undone)) c.args.event c.insert.new.self.items within c.in-Ok.ensures.items
