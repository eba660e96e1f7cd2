-- Each turn of the loop is a step of the run in order.
use Rattle.std.proofs.Common.{◌≡◌, ◌+◌, ◌<◌, ◌≤◌, ◌^◌, ◌∷◌, ℕ, List, true, inr, refl, sym, subst, ◌∙◌, arith}
use Rattle.std.proofs.lemmas.Result.{err_from_is_err_and}
use Rattle.warp_base.specs.declared.event.Event.{Event}
use Rattle.warp_base.specs.Events.{Each}
use Rattle.warp_base.specs.Histories.{Behaviour, SendsWithin}
use Rattle.warp_base.specs.Sequential.{Run, sequential, after_event}
use Rattle.warp_run.specs.Ends.{FaultsFirstAt, IsTooLong, IsSoundUntil}
use Rattle.warp_run.specs.Failures.{MatchFailure}
use Rattle.warp_run.specs.Standing.{StandsAt}
use Rattle.warp_run.specs.declared.finished.Failure.{Failure}
use Rattle.warp_run.proofs.Steps.{MatchFailure-weaker, receiver_within, step_runs, ran_more, sound_more, fault_at_step}
use Rattle.warp_run.proofs.in_order.run_in_order.Goals as goal

stands_itself : {P S : Type 0} (n : ℕ) (r : Run P S) (states : List S) (serials : List ℕ) (queue : List (Event P)) → StandsAt n r states serials queue → StandsAt n r states serials r.queue
stands_itself n r states serials queue h = record { state_count = h.state_count; state = h.state; serial_count = h.serial_count; serial = h.serial; waiting = refl }

-- a failure at an event is one of the run in order
fails : {P S : Type 0} (words : P → List ℕ) (b : Behaviour P S) (n end steps : ℕ) (e : Event P) (queue : List (Event P)) (failure : Failure)
    → (sequential words b n end steps).queue ≡ e ∷ queue → e.time ≤ end → SendsWithin n b → IsSoundUntil words b n end steps
    → MatchFailure (λ p. (p ≡ e.receiver) × (b.faulty (b.after p ((sequential words b n end steps).states p) e) ≡ true)) (2 ^ 64 ≤ (after_event words b (sequential words b n end steps) e queue).serials e.receiver) failure
    → MatchFailure (FaultsFirstAt words b n end) (IsTooLong words b n end) failure
fails {P} {S} words b n end steps e queue failure first soon sends sound h =
    let r = sequential words b n end steps in
    let runs = step_runs words b n end steps e queue first soon in
    let within = receiver_within words b n end sends steps e queue first in
    MatchFailure-weaker failure
    (λ p met. subst (λ q. FaultsFirstAt words b n end q) (sym met.0) (fault_at_step words b n end steps e queue runs sound within (subst (λ q. b.faulty (b.after q (r.states q) e) ≡ true) met.0 met.1)))
    (λ many. record { steps = steps + 1; many = inr (e.receiver, subst (λ (t : Run P S). 2 ^ 64 ≤ t.serials e.receiver) (sym runs) many) })
    h

pub returns-in_err-progress-clause-failure : goal.returns-in_err-progress-clause-failure
returns-in_err-progress-clause-failure g c =
    let p = err_from_is_err_and c.from_residual.result c.from_residual.ensures.1 in
    rw (p.1, p.2) (MatchFailure-weaker c.in_err-progress.field-0.0 (λ p h. h) (λ no. absurd no) (c.in_err-progress.ensures.failure c.args.end))

pub loop-committed-init : goal.loop-committed-init
loop-committed-init g c =
    record { stands = c.in_ok-progress.ensures.stands; sound = c.in_ok-progress.ensures.sound c.args.end; count = refl }

pub returns-in-None-clause-ok : goal.returns-in-None-clause-ok
returns-in-None-clause-ok g c =
    let now = c.loop-committed.invariant in
    record {
      steps = c.loop-committed.committed;
      over = subst (Each (λ e. c.args.end < e.time)) now.stands.waiting c.in-None.ensures.none.1;
      count = now.stands.state_count;
      state = now.stands.state;
      number = sym now.count;
      sound = now.sound;
    }

pub run_event-requires-clause-states : goal.run_event-requires-clause-states
run_event-requires-clause-states g c =
    let now = c.loop-committed.invariant in
    let within = receiver_within g.M.Payload.Payload.words (g.M.Simulation.behaviour c.args.model.now) (g.M.Simulation.processes c.args.model.now) c.args.end (g.met.M.Simulation.sends_within c.args.model.now) c.loop-committed.committed c.in-Some.event c.pop_until.new.self (sym now.stands.waiting ∙ c.in-Some.ensures.first.0) in
    let count = now.stands.state_count in
    omega (arith, within, count)

pub run_event-requires-clause-serials : goal.run_event-requires-clause-serials
run_event-requires-clause-serials g c =
    let now = c.loop-committed.invariant in
    let within = receiver_within g.M.Payload.Payload.words (g.M.Simulation.behaviour c.args.model.now) (g.M.Simulation.processes c.args.model.now) c.args.end (g.met.M.Simulation.sends_within c.args.model.now) c.loop-committed.committed c.in-Some.event c.pop_until.new.self (sym now.stands.waiting ∙ c.in-Some.ensures.first.0) in
    let count = now.stands.serial_count in
    omega (arith, within, count)

pub returns-in_err-run_event-in-Some-clause-failure : goal.returns-in_err-run_event-in-Some-clause-failure
returns-in_err-run_event-in-Some-clause-failure g c =
    let words = g.M.Payload.Payload.words in
    let b = g.M.Simulation.behaviour c.args.model.now in
    let n = g.M.Simulation.processes c.args.model.now in
    let now = c.loop-committed.invariant in
    let old = c.loop-committed.progress in
    let r = sequential words b n c.args.end c.loop-committed.committed in
    let p = err_from_is_err_and c.from_residual-in_err-run_event-in-Some.result c.from_residual-in_err-run_event-in-Some.ensures.1 in
    rw (p.1, p.2) (fails words b n c.args.end c.loop-committed.committed c.in-Some.event c.pop_until.new.self c.in_err-run_event-in-Some.field-0.0 (sym now.stands.waiting ∙ c.in-Some.ensures.first.0) c.in-Some.ensures.first.1 (g.met.M.Simulation.sends_within c.args.model.now) now.sound
    (c.in_err-run_event-in-Some.ensures.failure n r (stands_itself n r old.states.items old.serials.items old.queue now.stands)))

pub loop-committed-preserved : goal.loop-committed-preserved
loop-committed-preserved g c =
    let words = g.M.Payload.Payload.words in
    let b = g.M.Simulation.behaviour c.args.model.now in
    let n = g.M.Simulation.processes c.args.model.now in
    let end = c.args.end in
    let steps = c.loop-committed.committed in
    let now = c.loop-committed.invariant in
    let old = c.loop-committed.progress in
    let new = c.run_event.new.self in
    let r = sequential words b n end steps in
    let e = c.in-Some.event in
    let queue = c.pop_until.new.self in
    let runs = step_runs words b n end steps e queue (sym now.stands.waiting ∙ c.in-Some.ensures.first.0) c.in-Some.ensures.first.1 in
    let h = stands_itself n r old.states.items old.serials.items old.queue now.stands in
    record {
      stands = subst (λ r. StandsAt n r new.states.items new.serials.items new.queue) (sym runs) (c.in_ok-run_event-in-Some.ensures.ok n r h);
      sound = sound_more words b n end steps e queue runs now.sound (c.in_ok-run_event-in-Some.ensures.sound n r h);
      count = ran_more words b n end steps e queue runs now.count;
    }
