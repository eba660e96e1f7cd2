use Rattle.std.proofs.Common.{ℕ, ◌<◌, ◌≤◌, length, take, drop, subst, ◌≡◌, ◌∙◌}
use Rattle.warp_base.specs.Events.{Each}
use Rattle.warp_process.specs.Savers.{until}
use Rattle.warp_process.proofs.Dates.{some_until, keeps_from}
use Rattle.warp_process.proofs.whole_copies.WholeCopiesStateSaver.prune.Goals as goal

pub overflow_sub-later : goal.overflow_sub-later
overflow_sub-later g c =
    let copies = c.args.self.now.copies.items in
    let k = c.count_until-later.result in
    let late = subst (λ l. Each (λ (x : ℕ × g.row.S.Denot). c.args.before < x.0) (drop k l)) c.deref.ensures.value c.count_until-later.ensures.later in
    let some = c.requires.some in
    some_until c.args.before k copies some.0 some.1 some.2 some.4 some.3 late

pub returns-clause-copies : goal.returns-clause-copies
returns-clause-copies g c =
    let copies = c.args.self.now.copies.items in
    let k = c.count_until-later.result in
    let late = subst (λ l. Each (λ (x : ℕ × g.row.S.Denot). c.args.before < x.0) (drop k l)) c.deref.ensures.value c.count_until-later.ensures.later in
    let within = subst (λ l. k ≤ length l) c.deref.ensures.value c.count_until-later.ensures.within in
    let soon : take k copies ≡ until c.args.before copies = subst (λ l. take k l ≡ until c.args.before l) c.deref.ensures.value c.count_until-later.ensures.until in
    let some = c.requires.some in
    keeps_from c.args.before k copies c.drop-drain.new.self.0.items c.index.result.now (some_until c.args.before k copies some.0 some.1 some.2 some.4 some.3 late) within soon late (c.drop-drain.ensures.items ∙ c.drain.ensures.kept) c.index.ensures
