use Rattle.dym_base.specs.HeapStep.{splice}
use Rattle.dym_heap.proofs.HandleSteps.{wrote}
use Rattle.dym_heap.proofs.chunk.write_chunk.Goals as goal

pub returns : goal.returns
returns g c =
    let w = wrote (splice c.args.at c.args.bytes.now) c.requires.tidy c.write.ensures.valid_shelf c.write.ensures.written in
    record { after = w.after; keeps = w.keeps; held = w.held; tidy = w.tidy }
