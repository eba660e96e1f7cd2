use Rattle.std.proofs.Common.{◌^◌, List, map, Err, IfErr, ap, sym, subst, arith}
use Rattle.std.proofs.lemmas.Result.{err_from_is_err_and}
use Rattle.warp_worker.specs.Workers.{Cell, IsWorker, HasEnded, worker_face}
use Rattle.warp_run.specs.Ends.{FaultsAt, IsHalfTooLong}
use Rattle.warp_run.specs.Failures.{MatchFailure}
use Rattle.warp_run.proofs.Ending.{is_end, end_too_long, end_failure_real}
use Rattle.warp_run.proofs.Finishing.{EndedUpTo, ended_more, ended_many, ended_all, ended_fails}
use Rattle.warp_run.proofs.Lanes.{none_left}
use Rattle.warp_run.proofs.TooLong.{failure_of}
use Rattle.warp_run.proofs.rounds.Rounds.finish.Goals as goal

pub finish-requires : goal.finish-requires
finish-requires g c =
    let to = worker_face g.K.StateSaver.state g.K.StateSaver.copies in
    let words = g.M.Payload.Payload.words in
    let b = g.M.Simulation.behaviour c.args.self.model.now in
    let cells = c.requires.world.0 in
    let at = subst (λ l. EndedUpTo words b cells (map to l) c.loop-lane.states.items c.loop-lane.committed) c.in-Some.ensures.steps.0 (c.loop-lane.invariant cells c.requires.world.1.workers) in
    record { worker = (at.workers.0, at.workers.3) }

pub returns-in-Some-failed-clause-failure : goal.returns-in-Some-failed-clause-failure
returns-in-Some-failed-clause-failure g c =
    let to = worker_face g.K.StateSaver.state g.K.StateSaver.copies in
    let words = g.M.Payload.Payload.words in
    let model = c.args.self.model.now in
    let b = g.M.Simulation.behaviour model in
    let cells = c.requires.world.0 in
    let world = c.requires.world.1 in
    let left = map to c.next.new.self.rest.items in
    let old = c.loop-lane.states.items in
    let new = c.finish.new.states.items in
    let at = subst (λ l. EndedUpTo words b cells (map to l) old c.loop-lane.committed) c.in-Some.ensures.steps.0 (c.loop-lane.invariant cells world.workers) in
    let told = λ (cs : List (Cell g.row.M-Payload.Denot g.row.M-State.Denot)) (w : IsWorker words b cs (to c.in-Some.lane)). subst (HasEnded words b cs old new c.in_ok-count.field-0.count) c.in-Some-failed.is (c.in_ok-count.ensures.ended cs w) in
    end_failure_real words g.met.M.Payload.Payload.tells_apart b (g.M.Simulation.processes model) c.args.self.end cells (map to c.args.self.lanes.items) (g.met.M.Simulation.looks_ahead model) (g.met.M.Simulation.starts_within model) (g.met.M.Simulation.sends_within model) world c.settled_states_are_real.ensures c.in-Some-failed.process
    (ended_fails words b cells (to c.in-Some.lane) left old new c.loop-lane.committed c.in_ok-count.field-0.count c.in-Some-failed.process at told)

pub loop-lane-preserved : goal.loop-lane-preserved
loop-lane-preserved g c cells workers =
    let to = worker_face g.K.StateSaver.state g.K.StateSaver.copies in
    let words = g.M.Payload.Payload.words in
    let b = g.M.Simulation.behaviour c.args.self.model.now in
    let left = map to c.next.new.self.rest.items in
    let old = c.loop-lane.states.items in
    let new = c.finish.new.states.items in
    let at = subst (λ l. EndedUpTo words b cells (map to l) old c.loop-lane.committed) c.in-Some.ensures.steps.0 (c.loop-lane.invariant cells workers) in
    let told = λ (cs : List (Cell g.row.M-Payload.Denot g.row.M-State.Denot)) (w : IsWorker words b cs (to c.in-Some.lane)). subst (HasEnded words b cs old new c.in_ok-count.field-0.count) c.in_default.is (c.in_ok-count.ensures.ended cs w) in
    let sum = c.in-Some-checked_add.ensures in
    let count = c.in_ok-count.count-is in
    ended_more words b cells (to c.in-Some.lane) left old new c.loop-lane.committed c.in_ok-count.field-0.count c.in-Some-checked_add.sum at told (omega (arith, sum, count))

pub returns-clause-ok : goal.returns-clause-ok
returns-clause-ok g c =
    let to = worker_face g.K.StateSaver.state g.K.StateSaver.copies in
    let words = g.M.Payload.Payload.words in
    let model = c.args.self.model.now in
    let b = g.M.Simulation.behaviour model in
    let cells = c.requires.world.0 in
    let world = c.requires.world.1 in
    let states = c.loop-lane.states.items in
    let count = c.loop-lane.committed in
    let at = subst (λ l. EndedUpTo words b cells (map to l) states count) (none_left c.loop-lane.lane-iterator.rest.items (omega (arith, c.in-None.ensures.steps.0, c.loop-lane.lane-iterator.rest.ok.0))) (c.loop-lane.invariant cells world.workers) in
    is_end words g.met.M.Payload.Payload.tells_apart b (g.M.Simulation.processes model) c.args.self.end cells (map to c.args.self.lanes.items) (g.met.M.Simulation.looks_ahead model) (g.met.M.Simulation.starts_within model) (g.met.M.Simulation.sends_within model) world c.sequential_run_is_sound.ensures c.bound_is_safe.ensures c.nothing_is_sent_beyond.ensures states count
    (ended_all words b cells states count at)

pub returns-in_err-count-clause-failure : goal.returns-in_err-count-clause-failure
returns-in_err-count-clause-failure g c =
    let to = worker_face g.K.StateSaver.state g.K.StateSaver.copies in
    let words = g.M.Payload.Payload.words in
    let model = c.args.self.model.now in
    let b = g.M.Simulation.behaviour model in
    let n = g.M.Simulation.processes model in
    let end = c.args.self.end in
    let cells = c.requires.world.0 in
    let world = c.requires.world.1 in
    let left = map to c.next.new.self.rest.items in
    let at = subst (λ l. EndedUpTo words b cells (map to l) c.loop-lane.states.items c.loop-lane.committed) c.in-Some.ensures.steps.0 (c.loop-lane.invariant cells world.workers) in
    let told = err_from_is_err_and c.from_residual.result c.from_residual.ensures.1 in
    subst (λ r. IfErr r (MatchFailure (FaultsAt words b n end) (IsHalfTooLong words b n end))) (sym told.1)
    (failure_of (FaultsAt words b n end) (IsHalfTooLong words b n end) told.0 c.in_err-count.field-0.0 told.2 (λ counts.
    end_too_long words g.met.M.Payload.Payload.tells_apart b n end cells (map to c.args.self.lanes.items) (g.met.M.Simulation.looks_ahead model) (g.met.M.Simulation.starts_within model) (g.met.M.Simulation.sends_within model) world c.sequential_run_is_sound.ensures c.bound_is_safe.ensures c.nothing_is_sent_beyond.ensures
    (ended_many words b cells (to c.in-Some.lane) left c.loop-lane.states.items c.loop-lane.committed (2 ^ 64) (2 ^ 64) at (c.in_err-count.ensures.many (ap Err counts)) (omega arith))))

pub returns-in_default-checked_add-clause-failure : goal.returns-in_default-checked_add-clause-failure
returns-in_default-checked_add-clause-failure g c =
    let to = worker_face g.K.StateSaver.state g.K.StateSaver.copies in
    let words = g.M.Payload.Payload.words in
    let model = c.args.self.model.now in
    let b = g.M.Simulation.behaviour model in
    let n = g.M.Simulation.processes model in
    let end = c.args.self.end in
    let cells = c.requires.world.0 in
    let world = c.requires.world.1 in
    let left = map to c.next.new.self.rest.items in
    let at = subst (λ l. EndedUpTo words b cells (map to l) c.loop-lane.states.items c.loop-lane.committed) c.in-Some.ensures.steps.0 (c.loop-lane.invariant cells world.workers) in
    let full = c.in_default-checked_add.ensures in
    let count = c.in_ok-count.count-is in
    end_too_long words g.met.M.Payload.Payload.tells_apart b n end cells (map to c.args.self.lanes.items) (g.met.M.Simulation.looks_ahead model) (g.met.M.Simulation.starts_within model) (g.met.M.Simulation.sends_within model) world c.sequential_run_is_sound.ensures c.bound_is_safe.ensures c.nothing_is_sent_beyond.ensures
    (ended_many words b cells (to c.in-Some.lane) left c.loop-lane.states.items c.loop-lane.committed c.in_ok-count.field-0.count (2 ^ 64) at (λ cs w. let all = (c.in_ok-count.ensures.ended cs w).count in omega (arith, all)) (omega (arith, full, count)))
