use Rattle.std.proofs.Common.{List, ℕ, sym, subst}
use Rattle.dym_base.specs.Files.{head_bytes, head_of}
use Rattle.dym_io.specs.Sink.{Writes}
use Rattle.dym_io.specs.Laws.{writes_after, writes_cut}
use Rattle.dym_ckpt.specs.SavedFiles.{framed_from}
use Rattle.dym_ckpt.proofs.SavedFiles.{file_parts}
use Rattle.dym_ckpt.proofs.file_writer.save.Goals as goal

pub returns-in_err-write_head-clause-written : goal.returns-in_err-write_head-clause-written
returns-in_err-write_head-clause-written g c =
    let logs = g.L.KeptLogs.meaning c.args.logs.now in
    let head = head_bytes (head_of c.args.name.now c.args.quota c.args.version logs.base_logs logs.logs) in
    subst (λ (text : List ℕ). Writes (g.W.Sink.output c.args.sink.now) (g.W.Sink.output c.write_head.new.sink) text c.from_residual.result)
    (sym (file_parts c.args.name.now c.args.quota c.args.version logs c.requires.records))
    (writes_cut _ _ head (framed_from 0 logs.records) c.from_residual.result c.from_residual.ensures.0 c.in_err-write_head.ensures)

pub returns-clause-written : goal.returns-clause-written
returns-clause-written g c =
    let logs = g.L.KeptLogs.meaning c.args.logs.now in
    let head = head_bytes (head_of c.args.name.now c.args.quota c.args.version logs.base_logs logs.logs) in
    subst (λ (text : List ℕ). Writes (g.W.Sink.output c.args.sink.now) (g.W.Sink.output c.write_records.new.sink) text c.write_records.result)
    (sym (file_parts c.args.name.now c.args.quota c.args.version logs c.requires.records))
    (writes_after _ _ _ head (framed_from 0 logs.records) c.write_records.result c.in_ok-write_head.ensures c.write_records.ensures.written)
