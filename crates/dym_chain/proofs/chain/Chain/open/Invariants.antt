use Rattle.std.proofs.Common.{[]}
use Rattle.dym_chain.proofs.chain.Chain.open.Given as goal

abbrev pub ghost-open : goal.ghost-open
ghost-open g a = record { base_logs = []; logs = [] }
