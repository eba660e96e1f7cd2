use Rattle.std.proofs.Common.{◌≡◌, ◌+◌, length, sym, subst, arith}
use Rattle.warp_process.specs.Savers.{KeepsFrom}
use Rattle.warp_process.specs.Processes.{face, IsProcess}
use Rattle.warp_process.proofs.Committing.{oldest_late, pruned}
use Rattle.warp_process.proofs.process.Process.prune.Goals as goal

pub overflow_sub-oldest : goal.overflow_sub-oldest
overflow_sub-oldest g c =
    let self = c.args.self.now in
    let k = c.requires.process in
    oldest_late g.P.Payload.words k.behaviour k.past (face g.K.StateSaver.state g.K.StateSaver.copies self) k.process (self.first_date + c.len.result) c.prune-oldest.result (g.K.StateSaver.copies c.prune-oldest.new.self) c.prune-oldest.ensures.copies

pub returns-clause-kept : goal.returns-clause-kept
returns-clause-kept g c b past h =
    let self = c.args.self.now in
    let words = g.P.Payload.words in
    let f = face g.K.StateSaver.state g.K.StateSaver.copies self in
    let dates = h.dates in
    let all : self.first_date + c.len.result ≡ length past = omega (arith, dates, c.len.ensures, self.fossils.ok.0) in
    let now = pruned words b past f h (self.first_date + c.len.result) c.prune-oldest.result (g.K.StateSaver.copies c.prune-oldest.new.self) c.drop_first.new.list.items all c.prune-oldest.ensures.copies c.drop_first.ensures in
    subst (λ s. IsProcess words b past (record f { first_date = c.prune-oldest.result; fossils = c.drop_first.new.list.items; copies = g.K.StateSaver.copies c.prune-oldest.new.self; state = s })) (sym c.prune-oldest.ensures.state) now

pub returns-clause-copies : goal.returns-clause-copies
returns-clause-copies g c =
    let self = c.args.self.now in
    let len_is : c.len.result ≡ length self.fossils.items = omega (arith, c.len.ensures, self.fossils.ok.0) in
    subst (λ n. KeepsFrom (g.K.StateSaver.copies self.saver) (self.first_date + n) c.prune-oldest.result (g.K.StateSaver.copies c.prune-oldest.new.self)) len_is c.prune-oldest.ensures.copies
