use Rattle.std.proofs.Common.{◌+◌, sym, ap, ◌∙◌, List, drop}
use Rattle.dym_undo.specs.Passes.{cleared}
use Rattle.dym_undo.specs.declared.head.Head.{Head}
use Rattle.dym_undo.proofs.Lists.{next}
use Rattle.dym_undo.proofs.Walks.{keys_next}
use Rattle.dym_undo.proofs.passes.clear_stamps.Goals as goal

pub loop-head-preserved : goal.loop-head-preserved
loop-head-preserved c =
    let hs : List Head = c.args.heads.now in
    record {
      keys = keys_next _ hs c.loop-head.head-index c.loop-head-test.true c.loop-head.invariant.keys;
      words =
          ap (cleared (drop (c.loop-head.head-index + 1) hs)) c.unstamp.ensures
          ∙ sym (ap (λ (l : List Head). cleared l c.loop-head.words) (next hs c.loop-head.head-index _ c.loop-head-test.true))
          ∙ c.loop-head.invariant.words;
    }
