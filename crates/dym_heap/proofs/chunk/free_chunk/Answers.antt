use Rattle.dym_heap.proofs.HandleSteps.{freed, was_used}
use Rattle.dym_heap.proofs.chunk.free_chunk.Goals as goal

pub returns : goal.returns
returns g c =
    let gone = freed c.requires.tidy c.trim.ensures.valid_shelf (was_used _ _ _ c.release-used.ensures.used c.requires.live c.release-used.ensures.freed) c.trim.ensures.trims c.args.class.least c.ranges.index.fits in
    record { after = gone.after; keeps = gone.keeps; tidy = gone.tidy }
