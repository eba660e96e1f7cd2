-- What is left to write is the declarations that are left.
use Rattle.std.proofs.Common.{◌+◌, ◌≤◌, arith}
use Rattle.dym_io.specs.Laws.{leaves_same, leaves_more, leaves_cut, writes_stopped}
use Rattle.dym_gen.proofs.Lines.{objects_left}
use Rattle.dym_gen.proofs.script.write_objects.Goals as goal

pub returns-in_err-push_all : goal.returns-in_err-push_all
returns-in_err-push_all g c =
    let left = objects_left c.args.objects c.groups.first c.min-count.result _ (omega arith) c.put_objects-end.ensures.lines in
    writes_stopped _ _ _ _ c.from_residual.ensures.0 (leaves_cut _ _ _ _ _ _ (leaves_same _ _ _ _ _ c.groups.invariant.1 left) c.in_err-push_all.ensures)

pub groups-preserved : goal.groups-preserved
groups-preserved g c =
    let within : c.groups.first + c.min-count.result ≤ c.args.objects = omega arith in
    let left = objects_left c.args.objects c.groups.first c.min-count.result _ within c.put_objects-end.ensures.lines in
    (within, leaves_more _ _ _ _ _ _ (leaves_same _ _ _ _ _ c.groups.invariant.1 left) c.in_ok-push_all.ensures)
