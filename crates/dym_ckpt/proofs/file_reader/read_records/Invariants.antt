use Rattle.dym_ckpt.specs.FileRecords.{AreRead}
use Rattle.dym_ckpt.proofs.file_reader.read_records.Given as goal

abbrev pub invariant-loop-place : goal.invariant-loop-place
invariant-loop-place l = AreRead l.limits.version l.limits.quota l.limits.depth l.bytes l.record_list l.place l.rest
