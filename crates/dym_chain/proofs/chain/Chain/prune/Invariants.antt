use Rattle.std.proofs.Common.{◌+◌, ◌-◌, ◌++◌, length, take, drop}
use Rattle.dym_chain.proofs.chain.Chain.prune.Given as goal

abbrev pub ghost-cut : goal.ghost-cut
ghost-cut g a = record {
  base_logs = take a.kept (drop (length a.self.now.copies.base_logs + a.gone - a.kept) (a.self.now.copies.base_logs ++ a.self.now.copies.logs));
  logs = drop a.gone a.self.now.copies.logs;
}
