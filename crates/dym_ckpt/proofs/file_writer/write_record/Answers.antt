use Rattle.std.proofs.Common.{ap, length, arith}
use Rattle.dym_ckpt.proofs.SavedFiles.{record_is_short}
use Rattle.dym_ckpt.proofs.file_writer.write_record.Goals as goal

pub overflow_cast-bytes : goal.overflow_cast-bytes
overflow_cast-bytes g c =
    omega (arith, ap length c.bytes-bytes.ensures, ap length c.lift-rec.ensures.bytes, record_is_short (g.L.KeptLogs.meaning c.args.logs.now) c.requires.kept c.args.place c.requires.place)
