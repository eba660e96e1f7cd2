use Rattle.std.proofs.Common.{rules}
use Rattle.dym_base.specs.HeapStep.{key}
use Rattle.dym_heap.proofs.Tidy.{no_class, not_live}
use Rattle.dym_heap.proofs.chunk.bytes_of_handle.Goals as goal

pub returns-then-not-has_class : goal.returns-then-not-has_class
returns-then-not-has_class g c = not_live (key c.args.h) c.requires.valid_shelf (no_class c.args.h (search rules) c.if-not-has_class.ensures)
