use Rattle.std.proofs.Common.{take}
use Rattle.dym_chain.proofs.chain.Chain.restore.Given as goal

abbrev pub ghost-cut : goal.ghost-cut
ghost-cut g a = record { base_logs = a.self.now.copies.base_logs; logs = take a.kept a.self.now.copies.logs }
