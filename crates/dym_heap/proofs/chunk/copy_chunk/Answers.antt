use Rattle.dym_base.specs.HeapStep.{key}
use Rattle.dym_heap.proofs.Moves.{copied_none, copied_tidy}
use Rattle.dym_heap.proofs.chunk.copy_chunk.Goals as goal

pub returns-then-len-eq0-clause-copied : goal.returns-then-len-eq0-clause-copied
returns-then-len-eq0-clause-copied g c = copied_none c.args.shelf.now (key c.args.from) (key c.args.to) c.args.len c.if-len-eq0.true c.requires.source c.requires.target c.requires.touched

pub returns-clause-tidy : goal.returns-clause-tidy
returns-clause-tidy g c = copied_tidy (key c.args.from) (key c.args.to) c.args.len c.requires.tidy c.copy.ensures.valid_shelf c.copy.ensures.copied
