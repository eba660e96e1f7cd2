use Rattle.std.proofs.Common.{◌≡◌, ◌+◌, ◌-◌, ◌≤◌, ◌⊎◌, inl, inr, false, length, take, drop, ap, ◌∙◌, arith}
use Rattle.warp_base.specs.Histories.{state_from}
use Rattle.warp_process.specs.Processes.{face}
use Rattle.warp_process.proofs.Catching.{copy_bounds, caught_up, with_state, ran_behind, least_is, rest_all}
use Rattle.warp_process.proofs.process.Process.catch_up.Goals as goal

pub returns-clause-kept : goal.returns-clause-kept
returns-clause-kept g c past h =
    let words = g.P.Payload.words in
    let b = g.M.Simulation.behaviour c.args.model.now in
    let self = c.args.self.now in
    let p = self.number in
    let f = face g.K.StateSaver.state g.K.StateSaver.copies self in
    let s = g.K.StateSaver.state c.restore.new.self in
    let newest = c.in_ok-newest.newest in
    let is = c.in_ok-newest.ensures.ok in
    let bounds = copy_bounds words b past f h newest s is in
    let late = bounds.late in
    let soon = bounds.soon in
    let committed = c.min-committed.result in
    let least = least_is committed (newest - self.first_date) c.len.result c.min-committed.ensures in
    let few = least.0 in
    let within : committed ≤ length self.fossils.items = let one = least.1 in omega (arith, one, c.len.ensures, self.fossils.ok.0) in
    let which : (committed + self.first_date ≡ newest) ⊎ (committed ≡ length self.fossils.items) = elim least.2 as (λ _. (committed + self.first_date ≡ newest) ⊎ (committed ≡ length self.fossils.items)) [
      | inl one ↦ inl (omega (arith, one, late))
      | inr one ↦ inr (omega (arith, one, c.len.ensures, self.fossils.ok.0))
    ] in
    let rest = newest - self.first_date - committed in
    let count : c.len-2.result ≡ length self.marks.items = omega (arith, c.len-2.ensures, self.marks.ok.0) in
    let enough : rest ≤ length self.marks.items = elim which as (λ _. rest ≤ length self.marks.items) [
      | inl one ↦ omega (arith, one, late)
      | inr one ↦ omega (arith, one, late, soon)
    ] in
    let mid = state_from b p s (drop committed self.fossils.items) in
    let events = ap (λ n. take (n - rest) (drop rest c.deref-2.result.now)) count ∙ ap (λ l. take (length self.marks.items - rest) (drop rest l)) c.deref-2.ensures.value ∙ ran_behind rest (length self.marks.items) self.events.items enough in
    let first : g.K.StateSaver.state c.replay.new.saver ≡ mid = c.in_ok-replay.ensures.state ∙ ap (state_from b p s) (rest_all committed c.deref.result.now ∙ ap (drop committed) c.deref.ensures.value) in
    let second : g.K.StateSaver.state c.replay-2.new.saver ≡ state_from b p mid (drop rest (take (length self.marks.items) self.events.items)) = c.in_ok-replay-2.ensures.state ∙ ap (λ t. state_from b p t (take (c.len-2.result - rest) (drop rest c.deref-2.result.now))) first ∙ ap (state_from b p mid) events in
    let state = second ∙ caught_up words b past f h newest committed s is within (omega (arith, few, late)) which in
    with_state words b past f h (g.K.StateSaver.state c.replay-2.new.saver) false (g.K.StateSaver.copies c.replay-2.new.saver) (c.replay-2.ensures.copies ∙ c.replay.ensures.copies ∙ c.restore.ensures.copies) (λ fresh. state)
