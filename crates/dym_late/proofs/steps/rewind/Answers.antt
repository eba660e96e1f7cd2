use Rattle.dym_chain.specs.Chains.{object_of}
use Rattle.dym_late.proofs.Searches.{never_refused}
use Rattle.dym_late.proofs.steps.rewind.Goals as goal
use Rattle.std.proofs.Common.{◌∙◌, sym}

pub unreachable-requires : goal.unreachable-requires
unreachable-requires g c =
    never_refused (object_of c.args.heap.now.state c.args.chain.now) c.args.position c.restore.result c.requires.reached c.restore.ensures.answer (sym c.is_err.ensures.value ∙ c.if-is_err.true)
