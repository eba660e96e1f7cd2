use Rattle.std.proofs.Common.{◌≡◌, ◌-◌, ◌++◌, map, take, drop}
use Rattle.dym_chain.specs.Chains.{all_logs}
use Rattle.dym_undo.specs.HeapUndo.{KeepsRest}
use Rattle.dym_undo.specs.UndoLogs.{unfound}
use Rattle.dym_undo_files.specs.RecordedLogs.{AreBrought}
use Rattle.dym_undo_files.proofs.loaded_logs.read_some.Given as goal

abbrev pub invariant-loop-place : goal.invariant-loop-place
invariant-loop-place g l = record {
  brought : AreBrought l.fn.heap.version l.fn.heap.quota (all_logs l.fn.chain) l.place l.heap l.scratch l.undo;
  logs : l.undo.logs ≡ l.fn.undo.logs ++ map unfound (take (l.place - l.from) (drop l.from (all_logs l.fn.chain)));
  chain : l.chain ≡ l.fn.chain;
  rest : KeepsRest l.fn.heap l.heap;
}
