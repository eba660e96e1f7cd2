use Rattle.std.proofs.Common.{length, sym, ap, rules}
use Rattle.std.specs.Prelude.{option_map}
use Rattle.dym_base.specs.HeapStep.{key}
use Rattle.dym_heap.proofs.Tidy.{no_class, not_live}
use Rattle.dym_heap.proofs.chunk.len_of_handle.Goals as goal

pub returns-then-not-has_class-clause-len : goal.returns-then-not-has_class-clause-len
returns-then-not-has_class-clause-len g c = sym (ap (option_map length) (not_live (key c.args.h) c.requires.valid_shelf (no_class c.args.h (search rules) c.if-not-has_class.ensures)))
