use Rattle.std.proofs.Common.{◌≡◌, ◌≤◌, suc, ◌++◌, length, take, drop, refl, ap, sym, subst, ◌∙◌, arith, length-append}
use Rattle.std.proofs.lemmas.List.{take-append-drop, length-take-le, length-drop}
use Rattle.warp_base.specs.Events.{AreFrom}
use Rattle.warp_process.specs.Processes.{face}
use Rattle.warp_process.proofs.Committing.{done_stays, handed_over}
use Rattle.warp_process.proofs.process.Process.hand_over.Goals as goal

pub returns-clause-committed : goal.returns-clause-committed
returns-clause-committed g c =
    let words = g.P.Payload.words in
    let self = c.args.self.now in
    let p = self.number in
    let f = face g.K.StateSaver.state g.K.StateSaver.copies self in
    let count = c.args.count in
    let k = c.requires.process in
    let gone = take count self.events.items in
    let ran = k.process.ran_within in
    let long : length gone ≡ count = length-take-le count self.events.items (omega (arith, c.requires.within, ran)) in
    let within : length gone ≤ length self.marks.items = omega (arith, long, c.requires.within) in
    let rest = c.drop_first.new.list.items in
    let whole : self.events.items ≡ gone ++ rest = sym (ap (λ l. gone ++ l) c.drop_first.ensures ∙ take-append-drop count self.events.items) in
    let marks : c.drop_first-2.new.list.items ≡ drop (length gone) self.marks.items = c.drop_first-2.ensures ∙ ap (λ j. drop j self.marks.items) (sym long) in
    let behind = subst (AreFrom (suc c.args.last)) (sym c.drop_first.ensures) c.requires.behind in
    let committed : take count c.deref.result.now ≡ gone = ap (take count) c.deref.ensures.value in
    record {
      gone = gone;
      handed = c.append_reserved-2.ensures ∙ ap (λ l. c.args.out.now.items ++ l) committed;
      whole = whole;
      before = c.requires.before;
      behind = behind;
      same_done = λ past. done_stays f gone rest c.drop_first-2.new.list.items whole within marks past;
      process = λ b past h.
          let sent = c.drop_first-3.ensures ∙ ap (λ j. drop j self.sent.items) (c.sent_by-first.ensures.sent b past h) in
          handed_over words b past f h c.args.last gone rest c.drop_first-2.new.list.items c.drop_first-3.new.list.items c.append_reserved.new.list.items whole within c.requires.forward c.requires.before behind c.requires.early marks sent (c.append_reserved.ensures ∙ ap (λ l. self.fossils.items ++ l) committed);
      marks = let count = ap length marks ∙ length-drop (length gone) self.marks.items in omega (arith, count, within);
      last = refl;
      early = refl;
      number = refl;
    }

pub returns-clause-date : goal.returns-clause-date
returns-clause-date g c =
    let self = c.args.self.now in
    let count = c.args.count in
    let k = c.requires.process in
    let ran = k.process.ran_within in
    let committed : take count c.deref.result.now ≡ take count self.events.items = ap (take count) c.deref.ensures.value in
    let long = length-take-le count self.events.items (omega (arith, c.requires.within, ran)) in
    let fossils = ap length c.append_reserved.ensures ∙ length-append self.fossils.items (take count c.deref.result.now) in
    let gone = ap length committed in
    let marks = ap length c.drop_first-2.ensures ∙ length-drop count self.marks.items in
    omega (arith, fossils, gone, long, marks, c.requires.within)
