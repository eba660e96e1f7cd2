use Rattle.std.proofs.Common.{◌≡◌, take}
use Rattle.dym_object.specs.Meaning.{HasRun}
use Rattle.dymelor_top.proofs.save_order.run_all.Given as goal

abbrev pub invariant-loop-k : goal.invariant-loop-k
invariant-loop-k l = record {
  run : HasRun (take l.k l.commands) l.turn.object;
  count : l.turn.object.ran ≡ l.k;
  version : l.turn.object.heap.version ≡ l.initial.turn.object.heap.version;
  quota : l.turn.object.heap.quota ≡ l.initial.turn.object.heap.quota;
}
