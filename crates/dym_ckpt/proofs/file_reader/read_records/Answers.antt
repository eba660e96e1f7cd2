use Rattle.dym_ckpt.proofs.FileReadings.{read_none, none_are_read}
use Rattle.dym_ckpt.proofs.file_reader.read_records.Goals as goal

pub loop-place-init : goal.loop-place-init
loop-place-init c =
    read_none c.args.limits.version c.args.limits.quota c.args.limits.depth c.args.bytes.now c.in-Ok.record_list (c.in-Ok.ensures.record_list c.args.limits.version c.args.limits.depth) c.in-Ok.ensures.none

pub returns-in_default-clause-stops : goal.returns-in_default-clause-stops
returns-in_default-clause-stops c =
    none_are_read c.args.limits.version c.args.limits.quota c.args.limits.depth c.args.count c.args.bytes.now
