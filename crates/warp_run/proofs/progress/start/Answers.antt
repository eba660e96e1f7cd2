-- One process more has started; a fault is that of the first process that starts with one.
use Rattle.std.proofs.Common.{◌≡◌, ◌<◌, ◌≤◌, below_more, sym, subst, arith}
use Rattle.std.proofs.lemmas.Result.{err_from_is_err_and}
use Rattle.warp_base.specs.Sequential.{first_run}
use Rattle.warp_run.specs.Ends.{FaultsFirstAt}
use Rattle.warp_run.specs.Standing.{StandsAt}
use Rattle.warp_run.proofs.Standing.{stands_more}
use Rattle.warp_run.proofs.Steps.{MatchFailure-weaker, fault_at_start, sound_start}
use Rattle.warp_run.proofs.progress.start.Goals as goal

pub returns-in_err-start_process-clause-failure : goal.returns-in_err-start_process-clause-failure
returns-in_err-start_process-clause-failure g c =
    let words = g.M.Payload.Payload.words in
    let b = g.M.Simulation.behaviour c.args.model.now in
    let n = g.M.Simulation.processes c.args.model.now in
    let within : c.loop-process.process < n = let test = c.loop-process-test.true in let is = c.processes-process-end.ensures in omega (arith, test, is) in
    let p = err_from_is_err_and c.from_residual.result c.from_residual.ensures.1 in
    rw (p.1, p.2) (λ end. MatchFailure-weaker c.in_err-start_process.field-0.0 (λ p h. subst (λ q. FaultsFirstAt words b n end q) (sym h.0) (fault_at_start words b n end c.loop-process.process within h.1 c.loop-process.invariant.sound)) (λ no. no) c.in_err-start_process.ensures.failure)

pub loop-process-preserved : goal.loop-process-preserved
loop-process-preserved g c =
    let words = g.M.Payload.Payload.words in
    let b = g.M.Simulation.behaviour c.args.model.now in
    let old = c.loop-process.progress in
    let new = c.start_process.new.self in
    let did = c.in_ok-start_process.ensures in
    record {
      stands = stands_more words b c.loop-process.process old.states.items new.states.items old.serials.items new.serials.items old.queue new.queue c.loop-process.invariant.stands did.state did.serial did.queue;
      sound = below_more _ _ c.loop-process.invariant.sound did.sound;
    }

pub returns-clause-stands : goal.returns-clause-stands
returns-clause-stands g c =
    let words = g.M.Payload.Payload.words in
    let b = g.M.Simulation.behaviour c.args.model.now in
    let all : c.loop-process.process ≡ g.M.Simulation.processes c.args.model.now = let upto = c.loop-process.auto.process-end in let test = c.loop-process-test.false in let is = c.processes-process-end.ensures in omega (arith, upto, test, is) in
    let done = c.loop-process.progress in
    subst (λ n. StandsAt n (first_run words b n) done.states.items done.serials.items done.queue) all c.loop-process.invariant.stands

pub returns-clause-sound : goal.returns-clause-sound
returns-clause-sound g c =
    let words = g.M.Payload.Payload.words in
    let b = g.M.Simulation.behaviour c.args.model.now in
    let n = g.M.Simulation.processes c.args.model.now in
    let all : n ≤ c.loop-process.process = let test = c.loop-process-test.false in let is = c.processes-process-end.ensures in omega (arith, test, is) in
    λ end. sound_start words b n end (λ p within. c.loop-process.invariant.sound p (omega (arith, within, all)))
