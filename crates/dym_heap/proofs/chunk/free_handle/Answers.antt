use Rattle.std.proofs.Common.{is_some, sym, ap, rules}
use Rattle.dym_base.specs.HeapStep.{key}
use Rattle.dym_heap.proofs.HandleSteps.{freed}
use Rattle.dym_heap.proofs.Tidy.{no_class, not_live}
use Rattle.dym_heap.proofs.chunk.free_handle.Goals as goal

pub returns-then-not-has_class-clause-live : goal.returns-then-not-has_class-clause-live
returns-then-not-has_class-clause-live g c = sym (ap is_some (not_live (key c.args.h) c.requires.tidy.valid_shelf (no_class c.args.h (search rules) c.if-not-has_class.ensures)))

pub returns : goal.returns
returns g c =
    let gone = freed c.requires.tidy c.trim.ensures.valid_shelf c.if-not-release.ensures.freed c.trim.ensures.trims c.if-not-has_class.ensures.0 (search rules) in
    record { live = c.if-not-release.ensures.used; after = gone.after; keeps = gone.keeps; tidy = gone.tidy }
