use Rattle.std.proofs.Common.{length, ap, arith}
use Rattle.dym_ckpt.proofs.SavedFiles.{framed_end, file_long}
use Rattle.dym_ckpt.proofs.file_writer.saved_len.Goals as goal

pub returns-clause-len : goal.returns-clause-len
returns-clause-len g c v quota are =
    let logs = g.L.KeptLogs.meaning c.args.logs.now in
    let none = ap length (framed_end logs.records c.loop-place.place (omega (arith, c.slots-place-end.ensures.records))) in
    omega (arith, c.loop-place.invariant.left, none, file_long c.args.name.now quota v logs are)
