use Rattle.std.proofs.Common.{is_some, ap, rules}
use Rattle.dym_base.specs.HeapStep.{key}
use Rattle.dym_heap.proofs.Tidy.{no_class, not_live}
use Rattle.dym_heap.proofs.HeapUndo as undo
use Rattle.dym_heap.proofs.chunk_undo.forget_chunk.Goals as goal

pub returns-then-not-has_class-clause-after : goal.returns-then-not-has_class-clause-after
returns-then-not-has_class-clause-after g c = undo.dead_untouched (key c.args.h) c.requires.tidy (ap is_some (not_live (key c.args.h) c.requires.tidy.valid_shelf (no_class c.args.h (search rules) c.if-not-has_class.ensures)))

pub returns : goal.returns
returns g c =
    let forgot = undo.forgot (key c.args.h) c.requires.tidy c.forget.ensures.valid_shelf c.forget.ensures.forgotten in
    record { after = forgot.after; keeps = forgot.keeps; held = forgot.held; tidy = forgot.tidy }
