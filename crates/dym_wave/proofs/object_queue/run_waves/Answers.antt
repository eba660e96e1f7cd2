use Rattle.std.proofs.Common.{ap, map, ◌∙◌}
use Rattle.std.proofs.lemmas.List.Sorted.{IsPermutation-trans}
use Rattle.dym_region.specs.contracts.raw_segment.RawSegmentSegment.TheImpl.{ghosts}
use Rattle.dym_wave.proofs.HandingOver.{still_enough, stops_passed, wave_can, wave_done, wave_stops}
use Rattle.dym_wave.proofs.object_queue.run_waves.Goals as goal

pub run_next-requires-clause-can : goal.run_next-requires-clause-can
run_next-requires-clause-can g c κs within =
    let inv = c.loop-alloc.invariant in
    let t = g.C.Consumer in
    wave_can t.can_take t.takes t.fails c.args.object_queue.now.options.report c.loop-alloc.object_queue.options.report (ap (λ o. o.report) inv.options)
    c.args.object_queue.now.parts.items c.loop-alloc.object_queue.parts.items c.args.output.now c.loop-alloc.output inv.handed_over c.requires.can

pub loop-alloc-preserved : goal.loop-alloc-preserved
loop-alloc-preserved g c =
    let inv = c.loop-alloc.invariant in
    let it = c.run_next.ensures in
    let all = c.args.object_queue.now in
    let left = c.loop-alloc.object_queue in
    let before = c.loop-alloc.segments in
    let after = c.run_next.new.segments in
    let t = g.C.Consumer in
    record {
      options = it.options ∙ inv.options;
      enough = still_enough ghosts.id before.items after.items _ _ _ _ before.ok.0 after.ok.0 it.segments it.most inv.enough;
      distinct = it.distinct;
      segments = IsPermutation-trans (map ghosts.id c.args.segments.now.items) (map ghosts.id before.items) (map ghosts.id after.items) inv.segments it.segments;
      handed_over = wave_done t.can_take t.takes t.fails all.options.report left.options.report (ap (λ o. o.report) inv.options) all.parts.items left.parts.items
          c.args.output.now c.loop-alloc.output inv.handed_over c.run_next.new.object_queue.parts.items c.run_next.new.output c.in_ok-run_next.ensures.handed_over;
    }

pub returns-in_err-run_next-clause-segments : goal.returns-in_err-run_next-clause-segments
returns-in_err-run_next-clause-segments g c =
    IsPermutation-trans (map ghosts.id c.args.segments.now.items) (map ghosts.id c.loop-alloc.segments.items) (map ghosts.id c.run_next.new.segments.items)
    c.loop-alloc.invariant.segments c.run_next.ensures.segments

pub returns-in_err-run_next-clause-handed_over : goal.returns-in_err-run_next-clause-handed_over
returns-in_err-run_next-clause-handed_over g c =
    let inv = c.loop-alloc.invariant in
    let all = c.args.object_queue.now in
    let left = c.loop-alloc.object_queue in
    let t = g.C.Consumer in
    stops_passed t.can_take t.takes t.fails c.args.output.now c.run_next.new.output _ _ c.in_err-run_next.field-0.0 c.from_residual.ensures.1
    (wave_stops t.can_take t.takes t.fails all.options.report left.options.report (ap (λ o. o.report) inv.options) all.parts.items left.parts.items
    c.args.output.now c.loop-alloc.output inv.handed_over c.run_next.new.output c.in_err-run_next.field-0.0 c.in_err-run_next.ensures.handed_over)
