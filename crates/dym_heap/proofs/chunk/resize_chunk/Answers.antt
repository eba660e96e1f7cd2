use Rattle.std.proofs.Common.{◌≡◌, rules}
use Rattle.dym_base.specs.HeapStep.{fitted}
use Rattle.dym_base.specs.declared.command.Version.TheVariants.{One}
use Rattle.dym_heap.proofs.HandleSteps.{wrote}
use Rattle.dym_heap.proofs.Moves.{resized}
use Rattle.dym_heap.proofs.chunk.resize_chunk.Goals as goal

pub returns : goal.returns
returns g c =
    let no_one : c.args.shelf.now.version ≡ One → ⊥ = search rules in
    let w = wrote (fitted c.args.len) c.requires.tidy c.resize.ensures.valid_shelf c.resize.ensures.resized in
    record {
      after = resized c.args.h c.requires.tidy c.resize.ensures.valid_shelf no_one c.if-len-old.false c.requires.live c.resize.ensures.resized;
      keeps = w.keeps;
      held = w.held;
      tidy = w.tidy;
    }
