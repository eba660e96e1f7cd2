use Rattle.std.proofs.Common.{arith}
use Rattle.warp_process.proofs.Catching.{copy_bounds}
use Rattle.warp_object.specs.Processes.{inner}
use Rattle.warp_object.proofs.object_process.ObjectProcess.replays.Goals as goal

pub returns-in-None-clause-undone : goal.returns-in-None-clause-undone
returns-in-None-clause-undone g c undone =
    let known = c.requires.known in
    let newest = c.newest_copy.ensures in
    let bounds = copy_bounds g.P.Payload.words known.behaviour known.past (inner c.args.self.now) known.process c.newest_copy.result newest.0 newest.1 in
    let soon = bounds.soon in
    let date = c.date-in-None.ensures in
    (c.newest_copy.result, newest.0, newest.1, omega (arith, soon, date))
