use Rattle.std.proofs.Common.{subst, ◌∙◌, arith}
use Rattle.dym_base.specs.Files.{framed}
use Rattle.dym_io.specs.Sink.{Appended, Stopped}
use Rattle.dym_io.specs.Laws.{leaves_same, leaves_more, leaves_cut, leaves_nothing, writes_stopped}
use Rattle.dym_slots.specs.Meanings.{record_at}
use Rattle.dym_chain.specs.Chains.{ChainMeaning}
use Rattle.dym_ckpt.proofs.SavedFiles.{framed_next, framed_end}
use Rattle.dym_ckpt.proofs.file_writer.write_records.Goals as goal

pub returns-in_err-write_record-clause-written : goal.returns-in_err-write_record-clause-written
returns-in_err-write_record-clause-written g c =
    let logs = g.L.KeptLogs.meaning c.args.logs.now in
    let next = framed_next logs.records c.loop-place.place (omega (arith, c.slots-place-end.ensures.records)) in
    let stopped : Stopped (g.W.Sink.output c.loop-place.sink) (g.W.Sink.output c.write_record.new.sink) (framed (record_at logs.records c.loop-place.place).bytes) =
    subst (λ (l : ChainMeaning). Stopped (g.W.Sink.output c.loop-place.sink) (g.W.Sink.output c.write_record.new.sink) (framed (record_at l.records c.loop-place.place).bytes)) c.loop-place.invariant.same c.in_err-write_record.ensures.written in
    writes_stopped _ _ _ _ c.from_residual.ensures.0 (leaves_cut _ _ _ _ _ _ (leaves_same _ _ _ _ _ c.loop-place.invariant.left next) stopped)

pub loop-place-preserved : goal.loop-place-preserved
loop-place-preserved g c =
    let logs = g.L.KeptLogs.meaning c.args.logs.now in
    let next = framed_next logs.records c.loop-place.place (omega (arith, c.slots-place-end.ensures.records)) in
    let written : Appended (g.W.Sink.output c.loop-place.sink) (g.W.Sink.output c.write_record.new.sink) (framed (record_at logs.records c.loop-place.place).bytes) =
    subst (λ (l : ChainMeaning). Appended (g.W.Sink.output c.loop-place.sink) (g.W.Sink.output c.write_record.new.sink) (framed (record_at l.records c.loop-place.place).bytes)) c.loop-place.invariant.same c.in_ok-write_record.ensures.written in
    record {
      same = c.write_record.ensures.same ∙ c.loop-place.invariant.same;
      left = leaves_more _ _ _ _ _ _ (leaves_same _ _ _ _ _ c.loop-place.invariant.left next) written;
    }

pub returns-clause-written : goal.returns-clause-written
returns-clause-written g c =
    let logs = g.L.KeptLogs.meaning c.args.logs.now in
    leaves_nothing _ _ _ (leaves_same _ _ _ _ _ c.loop-place.invariant.left (framed_end logs.records c.loop-place.place (omega (arith, c.slots-place-end.ensures.records))))
