use Rattle.std.proofs.Common.{◌≡◌, ◌+◌, ◌-◌, ◌<◌, length, drop, map, ◌++◌, refl, ap, ◌∙◌, arith}
use Rattle.warp_base.specs.declared.event.Message.TheVariants as Variants
use Rattle.std.proofs.lemmas.Option.{slice_get_read}
use Rattle.warp_process.specs.Processes.{face}
use Rattle.warp_process.proofs.Steps.{back_bounds, back_to, posted_back}
use Rattle.warp_process.proofs.Keeping.{keeps_all, keeps_back}
use Rattle.warp_process.proofs.process.Process.roll_back.Goals as goal

pub overflow_sub-undone : goal.overflow_sub-undone
overflow_sub-undone g c =
    let self = c.args.self.now in
    let h = c.requires.process in
    let less : c.args.keep < length self.marks.items = omega (arith, c.if-len-keep.false, c.len.ensures, self.marks.ok.0) in
    let there = slice_get_read self.marks.items (length self.marks.items) c.args.keep c.index-serial.result.now refl less c.index-serial.ensures in
    (back_bounds g.P.Payload.words h.behaviour h.past (face g.K.StateSaver.state g.K.StateSaver.copies self) h.process c.args.keep c.index-serial.result.now less there).few

pub overflow_sub-first : goal.overflow_sub-first
overflow_sub-first g c =
    let self = c.args.self.now in
    let h = c.requires.process in
    let less : c.args.keep < length self.marks.items = omega (arith, c.if-len-keep.false, c.len.ensures, self.marks.ok.0) in
    let there = slice_get_read self.marks.items (length self.marks.items) c.args.keep c.index-serial.result.now refl less c.index-serial.ensures in
    let many = (back_bounds g.P.Payload.words h.behaviour h.past (face g.K.StateSaver.state g.K.StateSaver.copies self) h.process c.args.keep c.index-serial.result.now less there).many in
    omega (arith, many, c.len-2.ensures, self.sent.ok.0)

pub overflow_add-date-2 : goal.overflow_add-date-2
overflow_add-date-2 g c =
    let self = c.args.self.now in
    let h = c.requires.process in
    let less : c.args.keep < length self.marks.items = omega (arith, c.if-len-keep.false, c.len.ensures, self.marks.ok.0) in
    let there = slice_get_read self.marks.items (length self.marks.items) c.args.keep c.index-serial.result.now refl less c.index-serial.ensures in
    let date = (back_bounds g.P.Payload.words h.behaviour h.past (face g.K.StateSaver.state g.K.StateSaver.copies self) h.process c.args.keep c.index-serial.result.now less there).date in
    omega (arith, date, c.len-3.ensures, self.fossils.ok.0)

pub forget-requires : goal.forget-requires
forget-requires g c = record { ascending = c.requires.process.process.ascending }

pub returns-clause-kept : goal.returns-clause-kept
returns-clause-kept g c b past h =
    let self = c.args.self.now in
    let m = c.index-serial.result.now in
    let f = face g.K.StateSaver.state g.K.StateSaver.copies self in
    let less : c.args.keep < length self.marks.items = omega (arith, c.if-len-keep.false, c.len.ensures, self.marks.ok.0) in
    let there = slice_get_read self.marks.items (length self.marks.items) c.args.keep m refl less c.index-serial.ensures in
    let bounds = back_bounds g.P.Payload.words b past f h c.args.keep m less there in
    let few = bounds.few in
    let many = bounds.many in
    let first = c.len-2.result - (self.serial - m) in
    let split : first + self.serial ≡ length self.sent.items + m = omega (arith, few, many, c.len-2.ensures, self.sent.ok.0) in
    let date = self.first_date + c.len-3.result + c.args.keep in
    let date_is : date ≡ self.first_date + length self.fossils.items + c.args.keep = omega (arith, c.len-3.ensures, self.fossils.ok.0) in
    back_to g.P.Payload.words b past f h c.args.keep first m date (g.K.StateSaver.state c.forget.new.self) c.truncate.new.self.items c.take_back.new.sent.items (g.K.StateSaver.copies c.forget.new.self) c.fault_until-self.result less there split date_is c.truncate.ensures.items c.take_back.ensures.sent c.forget.ensures.copies c.fault_until-self.ensures.kept c.fault_until-self.ensures.gone

pub returns-clause-posted : goal.returns-clause-posted
returns-clause-posted g c t from =
    let self = c.args.self.now in
    let m = c.index-serial.result.now in
    let k = c.requires.process in
    let f = face g.K.StateSaver.state g.K.StateSaver.copies self in
    let less : c.args.keep < length self.marks.items = omega (arith, c.if-len-keep.false, c.len.ensures, self.marks.ok.0) in
    let there = slice_get_read self.marks.items (length self.marks.items) c.args.keep m refl less c.index-serial.ensures in
    let bounds = back_bounds g.P.Payload.words k.behaviour k.past f k.process c.args.keep m less there in
    let few = bounds.few in
    let many = bounds.many in
    let first = c.len-2.result - (self.serial - m) in
    let split : first + self.serial ≡ length self.sent.items + m = omega (arith, few, many, c.len-2.ensures, self.sent.ok.0) in
    posted_back g.P.Payload.words k.behaviour k.past f k.process k.looks_ahead c.args.keep first m t c.take_back.new.sent.items c.args.out.now.items c.take_back.new.out.items less there split from c.take_back.ensures.sent (c.take_back.ensures.out ∙ ap (λ l. l ++ map Variants.Anti (drop first self.sent.items)) c.reserve.ensures.items)

pub returns-clause-keeps : goal.returns-clause-keeps
returns-clause-keeps g c =
    let self = c.args.self.now in
    let f = face g.K.StateSaver.state g.K.StateSaver.copies self in
    let less : c.args.keep < length self.marks.items = omega (arith, c.if-len-keep.false, c.len.ensures, self.marks.ok.0) in
    let date = self.first_date + c.len-3.result + c.args.keep in
    let date_is : date ≡ self.first_date + length self.fossils.items + c.args.keep = omega (arith, c.len-3.ensures, self.fossils.ok.0) in
    keeps_back f c.args.keep date c.index-serial.result.now (g.K.StateSaver.state c.forget.new.self) c.truncate.new.self.items c.take_back.new.sent.items (g.K.StateSaver.copies c.forget.new.self) c.fault_until-self.result (omega (arith, less)) date_is c.truncate.ensures.items c.forget.ensures.copies c.forget.ensures.state

pub returns-then-len-keep-clause-keeps : goal.returns-then-len-keep-clause-keeps
returns-then-len-keep-clause-keeps g c =
    let k = c.requires.process in
    keeps_all g.P.Payload.words k.behaviour k.past (face g.K.StateSaver.state g.K.StateSaver.copies c.args.self.now) k.process
