use Rattle.std.proofs.Common.{◌≡◌, ◌+◌, ◌*◌, ◌^◌, ◌≤◌, length}
use Rattle.dym_ckpt.specs.SavedFiles.{framed_from}
use Rattle.dym_ckpt.proofs.file_writer.saved_len.Given as goal

abbrev pub invariant-loop-place : goal.invariant-loop-place
invariant-loop-place g l = record {
  same : g.L.KeptLogs.meaning l.logs ≡ g.L.KeptLogs.meaning l.initial.logs;
  few : l.len ≤ 19 + length l.name + l.place * (4 + 2 ^ 32);
  left : l.len + length (framed_from l.place (g.L.KeptLogs.meaning l.initial.logs).records) ≡ 19 + length l.name + length (framed_from 0 (g.L.KeptLogs.meaning l.initial.logs).records);
}
