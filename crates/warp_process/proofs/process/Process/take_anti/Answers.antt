use Rattle.std.proofs.Common.{◌≡◌, ◌∷◌, [], false, Some, slice_get, length, take, drop, ap, sym, subst, ◌∙◌, arith}
use Rattle.std.proofs.lemmas.Option.{slice_get_within}
use Rattle.std.proofs.lemmas.Bool.{iff_false}
use Rattle.warp_base.specs.Events.{Each, precedes, copies, IsBefore, IsInOrder}
use Rattle.warp_base.proofs.Orders.{copies-append}
use Rattle.warp_process.specs.Processes.{face}
use Rattle.warp_process.proofs.Taking.{events_in_order, not_there, early_more, taken_out, behind_from, copies-remove}
use Rattle.std.specs.List.{remove}
use Rattle.warp_process.proofs.Undoing.{undoes_remove}
use Rattle.warp_process.proofs.Keeping.{keeps_all, keeps_remove}
use Rattle.warp_process.proofs.process.Process.take_anti.Goals as goal

pub find_place-place-requires : goal.find_place-place-requires
find_place-place-requires g c =
    let k = c.requires.process in
    subst (IsInOrder g.P.Payload.words) (sym c.deref.ensures.value) (events_in_order g.P.Payload.words g.met.P.Payload.tells_apart k.behaviour k.past (face g.K.StateSaver.state g.K.StateSaver.copies c.args.self.now) k.process)

pub returns-then-not-is_at-clause-kept : goal.returns-then-not-is_at-clause-kept
returns-then-not-is_at-clause-kept g c b past h =
    let words = g.P.Payload.words in
    let tells = g.met.P.Payload.tells_apart in
    let self = c.args.self.now in
    let e = c.args.event in
    let place = c.find_place-place.result in
    let f = face g.K.StateSaver.state g.K.StateSaver.copies self in
    let before = subst (λ l. Each (λ x. precedes words e x ≡ false) (take place l)) c.deref.ensures.value c.find_place-place.ensures.before in
    let behind = subst (λ l. IsBefore words e (drop place l)) c.deref.ensures.value c.find_place-place.ensures.behind in
    let none = not_there words tells e self.events.items place (events_in_order words tells b past f h) before behind (λ there. iff_false c.is_at.ensures c.if-not-is_at.true (ap (λ l. slice_get l place) c.deref-2.ensures.value ∙ there)) in
    early_more words tells b past f h e c.push.new.self.items c.requires.own c.requires.late none c.in_ok-push.ensures.items

pub returns-then-not-is_at-clause-taken : goal.returns-then-not-is_at-clause-taken
returns-then-not-is_at-clause-taken g c e =
    let words = g.P.Payload.words in
    let count = ap (copies words e) c.in_ok-push.ensures.items ∙ copies-append words e c.args.self.now.early.items (c.args.event ∷ []) in
    omega (arith, count)

pub remove-requires : goal.remove-requires
remove-requires g c =
    let self = c.args.self.now in
    let place = c.find_place-place.result in
    let there : slice_get self.events.items place ≡ Some c.args.event = sym (ap (λ l. slice_get l place) c.deref-2.ensures.value) ∙ c.is_at.ensures.0 c.if-not-is_at.false in
    let within = slice_get_within self.events.items place c.args.event there in
    let count = ap (λ v. length v.items) c.in_ok-roll_back.ensures.events in
    omega (arith, within, count, c.roll_back.new.self.events.ok.0)

pub returns-clause-kept : goal.returns-clause-kept
returns-clause-kept g c b past h =
    let self = c.args.self.now in
    let now = c.roll_back.new.self in
    let place = c.find_place-place.result in
    let events = ap (λ v. v.items) c.in_ok-roll_back.ensures.events in
    let there : slice_get now.events.items place ≡ Some c.args.event = ap (λ l. slice_get l place) events ∙ sym (ap (λ l. slice_get l place) c.deref-2.ensures.value) ∙ c.is_at.ensures.0 c.if-not-is_at.false in
    taken_out g.P.Payload.words g.met.P.Payload.tells_apart b past (face g.K.StateSaver.state g.K.StateSaver.copies now) (c.in_ok-roll_back.ensures.kept b past h) c.args.event place c.remove.new.self.items there (let undone = c.in_ok-roll_back.ensures.undone in omega (arith, undone)) c.remove.ensures.items

pub returns-clause-taken : goal.returns-clause-taken
returns-clause-taken g c e =
    let words = g.P.Payload.words in
    let now = c.roll_back.new.self in
    let place = c.find_place-place.result in
    let events = ap (λ v. v.items) c.in_ok-roll_back.ensures.events in
    let there : slice_get now.events.items place ≡ Some c.args.event = ap (λ l. slice_get l place) events ∙ sym (ap (λ l. slice_get l place) c.deref-2.ensures.value) ∙ c.is_at.ensures.0 c.if-not-is_at.false in
    let count = copies-remove words e c.args.event now.events.items place there in
    let new = ap (copies words e) c.remove.ensures.items in
    let same = ap (copies words e) events in
    let early = ap (λ v. copies words e v.items) c.in_ok-roll_back.ensures.early in
    omega (arith, count, new, same, early)

pub returns-clause-posted : goal.returns-clause-posted
returns-clause-posted g c =
    let words = g.P.Payload.words in
    let e = c.args.event in
    let place = c.find_place-place.result in
    let behind = subst (λ l. IsBefore words e (drop place l)) c.deref.ensures.value c.find_place-place.ensures.behind in
    c.in_ok-roll_back.ensures.posted e.time (behind_from words e (drop place c.args.self.now.events.items) behind)

pub returns-clause-undone : goal.returns-clause-undone
returns-clause-undone g c =
    let words = g.P.Payload.words in
    let self = c.args.self.now in
    let e = c.args.event in
    let place = c.find_place-place.result in
    let behind = subst (λ l. IsBefore words e (drop place l)) c.deref.ensures.value c.find_place-place.ensures.behind in
    let there : slice_get self.events.items place ≡ Some e = sym (ap (λ l. slice_get l place) c.deref-2.ensures.value) ∙ c.is_at.ensures.0 c.if-not-is_at.false in
    let events : c.roll_back.new.self.events.items ≡ self.events.items = ap (λ v. v.items) c.in_ok-roll_back.ensures.events in
    undoes_remove e place (face g.K.StateSaver.state g.K.StateSaver.copies self) (face g.K.StateSaver.state g.K.StateSaver.copies (record c.roll_back.new.self { events = c.remove.new.self })) (c.remove.ensures.items ∙ ap (λ l. remove l place) events) c.in_ok-roll_back.ensures.undone there (behind_from words e (drop place self.events.items) behind)

pub returns-then-not-is_at-clause-keeps : goal.returns-then-not-is_at-clause-keeps
returns-then-not-is_at-clause-keeps g c =
    let k = c.requires.process in
    let all = keeps_all g.P.Payload.words k.behaviour k.past (face g.K.StateSaver.state g.K.StateSaver.copies c.args.self.now) k.process in
    record { few = all.few; ran = all.ran; first_date = all.first_date; fossils = all.fossils; copies = all.copies; state = all.state; fresh = all.fresh }

pub returns-clause-keeps : goal.returns-clause-keeps
returns-clause-keeps g c =
    let self = c.args.self.now in
    let now = c.roll_back.new.self in
    let place = c.find_place-place.result in
    let events = ap (λ v. v.items) c.in_ok-roll_back.ensures.events in
    let there : slice_get now.events.items place ≡ Some c.args.event = ap (λ l. slice_get l place) events ∙ sym (ap (λ l. slice_get l place) c.deref-2.ensures.value) ∙ c.is_at.ensures.0 c.if-not-is_at.false in
    keeps_remove (face g.K.StateSaver.state g.K.StateSaver.copies self) (face g.K.StateSaver.state g.K.StateSaver.copies now) c.in_ok-roll_back.ensures.keeps place (let undone = c.in_ok-roll_back.ensures.undone in omega (arith, undone)) c.args.event c.remove.new.self.items there c.remove.ensures.items
