use Rattle.std.proofs.Common.{rules}
use Rattle.warp_threads.proofs.KeepsRule.{begins, forks}
use Rattle.warp_threads.proofs.exchange.open_queue.Goals as goal

pub ruled-requires-clause-rule : goal.ruled-requires-clause-rule
ruled-requires-clause-rule g c = begins

pub another-theirs-requires-clause-rule : goal.another-theirs-requires-clause-rule
another-theirs-requires-clause-rule g c = forks _ _ (search rules) (search rules)
