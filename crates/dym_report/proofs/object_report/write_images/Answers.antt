-- What is left to write is the lines of the chunks after the last one.
use Rattle.std.proofs.Common.{List, ℕ, flat_map, IfSome, ap, sym, subst}
use Rattle.dym_base.specs.HeapStep.{key, handle_of}
use Rattle.dym_heap.specs.Replies.{after_key, IsNextLive}
use Rattle.dym_io.specs.Sink.{Appended, Stopped}
use Rattle.dym_io.specs.Laws.{leaves_all, leaves_same, leaves_more, leaves_cut, leaves_nothing, writes_stopped}
use Rattle.dym_report.specs.Objects.{image_line, images_text}
use Rattle.dym_report.proofs.EntriesInOrder.{entries_from_start}
use Rattle.dym_report.proofs.LiveWalk.{bytes_of, walk_ends, walk_goes, walk_falls}
use Rattle.dym_report.proofs.object_report.write_images.Goals as goal

pub loop-handle-init : goal.loop-handle-init
loop-handle-init g c =
    let line : ℕ × List ℕ → List ℕ = λ e. image_line c.args.heap.now.version (handle_of e.0) e.1 in
    leaves_same _ _ _ _ _ (leaves_all _ (images_text c.args.heap.now.version c.args.heap.now.state.live))
    (ap (flat_map line) (sym (entries_from_start c.args.heap.now.state.live)))

pub loop-handle-smaller : goal.loop-handle-smaller
loop-handle-smaller g c = walk_falls c.args.heap.now.state.live c.loop-handle.last c.in-Some.handle c.in-Some.ensures

pub returns-in_err-write_live : goal.returns-in_err-write_live
returns-in_err-write_live g c =
    let line : ℕ × List ℕ → List ℕ = λ e. image_line c.args.heap.now.version (handle_of e.0) e.1 in
    let next : IsNextLive c.args.heap.now.state.live (after_key c.loop-handle.last) (key c.in-Some.handle) = c.in-Some.ensures in
    let found = bytes_of c.args.heap.now.state.live (key c.in-Some.handle) next.is_live in
    let first = ap (flat_map line) (walk_goes c.args.heap.now.state.live c.loop-handle.last c.in-Some.handle found.0 next found.1) in
    let stopped : Stopped (g.W.Sink.output c.loop-handle.sink) (g.W.Sink.output c.write_live.new.sink) (line (key c.in-Some.handle, found.0)) =
    subst (λ o. IfSome o (λ bytes. Stopped (g.W.Sink.output c.loop-handle.sink) (g.W.Sink.output c.write_live.new.sink) (line (key c.in-Some.handle, bytes))))
    found.1 c.in_err-write_live.ensures in
    writes_stopped _ _ _ _ c.from_residual.ensures.0 (leaves_cut _ _ _ _ _ _ (leaves_same _ _ _ _ _ c.loop-handle.invariant first) stopped)

pub loop-handle-preserved : goal.loop-handle-preserved
loop-handle-preserved g c =
    let line : ℕ × List ℕ → List ℕ = λ e. image_line c.args.heap.now.version (handle_of e.0) e.1 in
    let next : IsNextLive c.args.heap.now.state.live (after_key c.loop-handle.last) (key c.in-Some.handle) = c.in-Some.ensures in
    let found = bytes_of c.args.heap.now.state.live (key c.in-Some.handle) next.is_live in
    let first = ap (flat_map line) (walk_goes c.args.heap.now.state.live c.loop-handle.last c.in-Some.handle found.0 next found.1) in
    let written : Appended (g.W.Sink.output c.loop-handle.sink) (g.W.Sink.output c.write_live.new.sink) (line (key c.in-Some.handle, found.0)) =
    subst (λ o. IfSome o (λ bytes. Appended (g.W.Sink.output c.loop-handle.sink) (g.W.Sink.output c.write_live.new.sink) (line (key c.in-Some.handle, bytes))))
    found.1 c.in_ok-write_live.ensures in
    leaves_more _ _ _ _ _ _ (leaves_same _ _ _ _ _ c.loop-handle.invariant first) written

pub returns : goal.returns
returns g c =
    let line : ℕ × List ℕ → List ℕ = λ e. image_line c.args.heap.now.version (handle_of e.0) e.1 in
    let none = ap (flat_map line) (walk_ends c.args.heap.now.state.live c.loop-handle.last c.in_default.ensures) in
    leaves_nothing _ _ _ (leaves_same _ _ _ _ _ c.loop-handle.invariant none)
