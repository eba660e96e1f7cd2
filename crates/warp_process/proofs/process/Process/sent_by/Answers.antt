use Rattle.std.proofs.Common.{◌≡◌, ◌+◌, ◌-◌, Some, slice_get, length, refl, ap, sym, ◌∙◌, arith}
use Rattle.std.proofs.lemmas.Option.{slice_get_read}
use Rattle.warp_base.specs.Histories.{state_after, all_sent}
use Rattle.warp_process.proofs.Runs.{sent_by_mark}
use Rattle.warp_process.proofs.process.Process.sent_by.Goals as goal

pub returns-in-Some-clause-within : goal.returns-in-Some-clause-within
returns-in-Some-clause-within g c =
    let self = c.args.self.now in
    let k = c.requires.process in
    let m = c.in-Some.mark.now in
    let there : slice_get self.marks.items c.args.count ≡ Some m = ap (λ l. slice_get l c.args.count) (sym c.deref.ensures.value) ∙ slice_get_read c.deref.result.now (length c.deref.result.now) c.args.count m refl c.in-Some.ensures.lookup.3.0 c.in-Some.ensures.lookup.1 in
    let by = sent_by_mark k.behaviour self.number (length (all_sent k.behaviour self.number k.past)) (state_after k.behaviour self.number k.past) self.events.items self.marks.items self.sent.items self.serial k.process.run c.args.count m there in
    let few = by.few in
    let more = by.more in
    let sum : m - (self.serial - c.len.result) + self.serial ≡ m + length self.sent.items = omega (arith, few, more, c.len.ensures, self.sent.ok.0) in
    let is = by.is (m - (self.serial - c.len.result)) sum in
    is.1

pub returns-in-Some-clause-sent : goal.returns-in-Some-clause-sent
returns-in-Some-clause-sent g c b past h =
    let self = c.args.self.now in
    let m = c.in-Some.mark.now in
    let there : slice_get self.marks.items c.args.count ≡ Some m = ap (λ l. slice_get l c.args.count) (sym c.deref.ensures.value) ∙ slice_get_read c.deref.result.now (length c.deref.result.now) c.args.count m refl c.in-Some.ensures.lookup.3.0 c.in-Some.ensures.lookup.1 in
    let by = sent_by_mark b self.number (length (all_sent b self.number past)) (state_after b self.number past) self.events.items self.marks.items self.sent.items self.serial h.run c.args.count m there in
    let few = by.few in
    let more = by.more in
    let sum : m - (self.serial - c.len.result) + self.serial ≡ m + length self.sent.items = omega (arith, few, more, c.len.ensures, self.sent.ok.0) in
    let is = by.is (m - (self.serial - c.len.result)) sum in
    is.0
