use Rattle.std.proofs.Common.{◌≡◌, refl, subst}
use Rattle.dym_io.specs.Sink.{Appended}
use Rattle.dym_report.specs.declared.write_fail.WriteFail.TheVariants.{Memory, Sink as SinkFailed}
use Rattle.dym_wave.specs.Results.{parts_shown}
use Rattle.dym_wave.proofs.Texts.{all_wrote, can_write_all, memory_wanting, sink_failed, texts_of_parts}
use Rattle.dym_wave.proofs.wave_report.write_waves.Goals as goal

pub run_all-requires-clause-can : goal.run_all-requires-clause-can
run_all-requires-clause-can g c κs within = can_write_all g.W.Sink.output c.args.sink.now (parts_shown c.args.options.report c.args.parts.items)

pub returns-in-Ok : goal.returns-in-Ok
returns-in-Ok g c =
    let out = g.W.Sink.output in
    let report = c.args.options.report in
    subst (Appended (out c.args.sink.now) (out c.run_all.new.output)) (texts_of_parts report c.args.parts.items)
    (all_wrote out c.args.sink.now c.run_all.new.output (parts_shown report c.args.parts.items) c.in-Ok.ensures)

pub returns-in-Err-Memory : goal.returns-in-Err-Memory
returns-in-Err-Memory g c =
    let wrote = rw c.in-Err-Memory.field-0-is at c.in-Err-Memory.ensures in
    memory_wanting g.W.Sink.output c.args.options.report c.args.parts.items c.args.sink.now c.run_all.new.output (Memory ≡ SinkFailed) (λ is. cc)
    wrote.0 wrote.1 wrote.2 wrote.3

pub returns-in-Err-Refused : goal.returns-in-Err-Refused
returns-in-Err-Refused g c =
    let wrote = rw c.in-Err-Refused.field-0-is at c.in-Err-Refused.ensures in
    sink_failed g.W.Sink.output c.args.options.report c.args.parts.items c.args.sink.now c.run_all.new.output (SinkFailed ≡ SinkFailed) refl
    wrote.0 wrote.2 wrote.1 wrote.3 wrote.4 wrote.5 wrote.6
