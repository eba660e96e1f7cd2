use Rattle.std.proofs.Common.{◌≡◌, ◌+◌, ◌<◌, length, ◌∙◌, arith}
use Rattle.warp_process.specs.Processes.{face}
use Rattle.warp_process.proofs.Catching.{all_older, saved, with_state}
use Rattle.warp_process.proofs.process.Process.save_if_due.Goals as goal

pub save-requires : goal.save-requires
save-requires g c =
    let self = c.args.self.now in
    let k = c.requires.process in
    let newest = c.newest-newest.ensures in
    let less : c.newest-newest.result < c.date-date.result = omega (arith, c.if-date-newest.false, c.max.ensures) in
    record { newest = all_older g.P.Payload.words k.behaviour k.past (face g.K.StateSaver.state g.K.StateSaver.copies self) k.process c.newest-newest.result c.date-date.result newest.0 newest.1 less }

pub returns-in_err-save-clause-kept : goal.returns-in_err-save-clause-kept
returns-in_err-save-clause-kept g c b past h =
    let self = c.args.self.now in
    with_state g.P.Payload.words b past (face g.K.StateSaver.state g.K.StateSaver.copies self) h (g.K.StateSaver.state c.save.new.self) self.is_stale (g.K.StateSaver.copies c.save.new.self) c.in_err-save.ensures.err (λ fresh. c.save.ensures.state ∙ h.state fresh)

pub returns-clause-kept : goal.returns-clause-kept
returns-clause-kept g c b past h =
    let self = c.args.self.now in
    let words = g.P.Payload.words in
    let f = face g.K.StateSaver.state g.K.StateSaver.copies self in
    let newest = c.newest-newest.ensures in
    let date = c.date-date.result in
    let less : c.newest-newest.result < date = omega (arith, c.if-date-newest.false, c.max.ensures) in
    let date_is : date ≡ self.first_date + length self.fossils.items + length self.marks.items = c.date-date.ensures in
    saved words b past f h date (g.K.StateSaver.state c.save.new.self) (g.K.StateSaver.copies c.save.new.self) c.requires.fresh date_is c.in_ok-save.ensures.ok (all_older words b past f h c.newest-newest.result date newest.0 newest.1 less) c.save.ensures.state
