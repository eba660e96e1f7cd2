use Rattle.std.proofs.Common.{◌≡◌}
use Rattle.dym_io.specs.Sink.{Leaves}
use Rattle.dym_ckpt.specs.SavedFiles.{framed_from}
use Rattle.dym_ckpt.proofs.file_writer.write_records.Given as goal

abbrev pub invariant-loop-place : goal.invariant-loop-place
invariant-loop-place g l = record {
  same : g.L.KeptLogs.meaning l.logs ≡ g.L.KeptLogs.meaning l.initial.logs;
  left : Leaves (g.W.Sink.output l.initial.sink) (g.W.Sink.output l.sink) (framed_from 0 (g.L.KeptLogs.meaning l.initial.logs).records) (framed_from l.place (g.L.KeptLogs.meaning l.initial.logs).records);
}
