use Rattle.std.specs.FinMap.{len}
use Rattle.dym_base.specs.Heaps.{held}
use Rattle.dym_io.specs.Laws.{writes_stopped}
use Rattle.dym_report.specs.Objects.{heap_line, images_text, logs_line}
use Rattle.dym_report.proofs.ObjectParts.{cut_first, cut_second, third_ends}
use Rattle.dym_report.proofs.object_report.write_state.Goals as goal

pub returns-in_err-write_heap : goal.returns-in_err-write_heap
returns-in_err-write_heap g c =
    let live = c.args.heap.now.state.live in
    writes_stopped _ _ _ _ c.from_residual.ensures.0
    (cut_first _ _ (heap_line (len live) (held live)) (images_text c.args.heap.now.version live) (logs_line c.args.kept c.args.slots) c.in_err-write_heap.ensures)

pub returns-in_err-write_images : goal.returns-in_err-write_images
returns-in_err-write_images g c =
    let live = c.args.heap.now.state.live in
    writes_stopped _ _ _ _ c.from_residual-in_err-write_images.ensures.0
    (cut_second _ _ _ (heap_line (len live) (held live)) (images_text c.args.heap.now.version live) (logs_line c.args.kept c.args.slots) c.in_ok-write_heap.ensures
    c.in_err-write_images.ensures)

pub returns : goal.returns
returns g c =
    let live = c.args.heap.now.state.live in
    third_ends _ _ _ _ (heap_line (len live) (held live)) (images_text c.args.heap.now.version live) (logs_line c.args.kept c.args.slots) _
    c.in_ok-write_heap.ensures c.in_ok-write_images.ensures c.write_logs.ensures
