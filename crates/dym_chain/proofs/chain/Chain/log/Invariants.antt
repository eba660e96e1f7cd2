use Rattle.std.proofs.Common.{[], ◌∷◌, ◌++◌}
use Rattle.dym_base.specs.Objects.{found_touched}
use Rattle.dym_chain.proofs.chain.Chain.log.Given as goal

abbrev pub ghost-logged : goal.ghost-logged
ghost-logged g a = record {
  base_logs = a.self.now.copies.base_logs;
  logs = a.self.now.copies.logs ++ record { time = a.time; depth = a.depth; copy = a.heap.now.state.live; found = found_touched a.depth a.heap.now.state.touched } ∷ [];
}
