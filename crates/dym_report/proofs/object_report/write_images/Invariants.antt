use Rattle.std.proofs.Common.{length, flat_map}
use Rattle.dym_base.specs.HeapStep.{handle_of}
use Rattle.dym_io.specs.Sink.{Leaves}
use Rattle.dym_report.specs.Objects.{image_line, images_text}
use Rattle.dym_report.proofs.LiveWalk.{left_after}
use Rattle.dym_report.proofs.object_report.write_images.Given as goal

abbrev pub invariant-loop-handle : goal.invariant-loop-handle
invariant-loop-handle g l = Leaves (g.W.Sink.output l.initial.sink) (g.W.Sink.output l.sink) (images_text l.heap.version l.heap.state.live)
    (flat_map (λ e. image_line l.heap.version (handle_of e.0) e.1) (left_after l.heap.state.live l.last))

abbrev pub decreases-loop-handle : goal.decreases-loop-handle
decreases-loop-handle g l = length (left_after l.heap.state.live l.last)
