use Rattle.std.proofs.Common.{List, ℕ, length, refl, ap, subst, ◌∙◌}
use Rattle.dym_base.specs.Files.{head_of}
use Rattle.dym_io.specs.Sink.{Writes}
use Rattle.dym_ckpt.proofs.SavedFiles.{head_text, count_of}
use Rattle.std.specs.Int.{w32, to_le_bytes}
use Rattle.dym_ckpt.proofs.file_writer.write_head.Goals as goal

pub returns : goal.returns
returns g c =
    let logs = g.L.KeptLogs.meaning c.args.logs.now in
    let head = head_of c.args.name.now c.args.quota c.args.version logs.base_logs logs.logs in
    let count = c.slots.ensures.records ∙ count_of c.args.version logs c.requires.records in
    subst (λ (text : List ℕ). Writes (g.W.Sink.output c.args.sink.now) (g.W.Sink.output c.push_parts.new.sink) text c.push_parts.result)
    (head_text head c.as_slice.result.now c.bytes-name.result.now c.to_le_bytes.result c.to_le_bytes-2.result (length c.bytes-name.result.now) c.number_of.result c.depth_of_oldest.result
    c.as_slice.ensures c.bytes-name.ensures refl c.to_le_bytes.ensures c.number_of.ensures (c.to_le_bytes-2.ensures ∙ ap (to_le_bytes w32) count) c.depth_of_oldest.ensures)
    c.push_parts.ensures
