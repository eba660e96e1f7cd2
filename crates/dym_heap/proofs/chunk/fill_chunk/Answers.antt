use Rattle.std.proofs.Common.{replicate}
use Rattle.dym_base.specs.HeapStep.{splice}
use Rattle.dym_heap.proofs.HandleSteps.{wrote}
use Rattle.dym_heap.proofs.chunk.fill_chunk.Goals as goal

pub returns : goal.returns
returns g c =
    let w = wrote (splice c.args.at (replicate c.args.len c.args.byte)) c.requires.tidy c.fill.ensures.valid_shelf c.fill.ensures.filled in
    record { after = w.after; keeps = w.keeps; held = w.held; tidy = w.tidy }
