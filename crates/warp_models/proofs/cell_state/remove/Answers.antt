-- What `retain` keeps is a filter, since the test stays as it is.
use Rattle.std.proofs.Common.{◌==◌, not, rules}
use Rattle.std.proofs.lemmas.Fn.{filter_same}
use Rattle.warp_models.specs.declared.cell_state.Call.{Call}
use Rattle.warp_models.proofs.cell_state.remove.Goals as goal

pub returns : goal.returns
returns c = filter_same _ (λ (call : Call). not (call.number == c.args.number)) _ (λ x b f h. search rules) _ _ c.retain.ensures.filtered
