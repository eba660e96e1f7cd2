use Rattle.std.proofs.Common.{◌+◌, ◌-◌, arith}
use Rattle.dym_heap.proofs.Skips as skips
use Rattle.dym_heap.proofs.chunk_load.after_chunks.Goals as goal

pub slice_bounds-number_in-end : goal.slice_bounds-number_in-end
slice_bounds-number_in-end c =
    let has = c.requires.chunks in
    let more = c.loop-test.true in
    let four = skips.left_four (c.args.count - c.loop.counter) c.loop.invariant.within (omega arith) (c.loop.invariant.passed has.0 has.1 has.2 has.3) in
    omega arith

pub loop-preserved : goal.loop-preserved
loop-preserved c =
    let has = c.requires.chunks in
    let more = c.loop-test.true in
    record {
      within = skips.left_whole (c.args.count - c.loop.counter) c.loop.invariant.within (omega arith) (c.loop.invariant.passed has.0 has.1 has.2 has.3) c.number_in-len.ensures;
      passed = λ chunks rest many begins.
          skips.left_next (c.args.count - c.loop.counter) (c.args.count - (c.loop.counter + 1)) c.loop.invariant.within (omega arith)
          (c.loop.invariant.passed chunks rest many begins) c.number_in-len.ensures;
    }
