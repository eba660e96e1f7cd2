use Rattle.std.proofs.Common.{ap, length, arith}
use Rattle.dym_ckpt.proofs.SavedFiles.{record_is_short}
use Rattle.dym_ckpt.proofs.file_writer.record_len.Goals as goal

pub overflow_cast-len : goal.overflow_cast-len
overflow_cast-len g c =
    omega (arith, ap length c.bytes.ensures, ap length c.lift-rec.ensures.bytes, record_is_short (g.L.KeptLogs.meaning c.args.logs.now) c.requires.kept c.args.place c.requires.place)
