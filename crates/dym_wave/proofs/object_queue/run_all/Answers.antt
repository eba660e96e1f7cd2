use Rattle.std.proofs.Common.{ap, subst}
use Rattle.dym_wave.specs.declared.wave_options.WaveOptions.{WaveOptions}
use Rattle.dym_wave.specs.Consumers.{HandsOver}
use Rattle.dym_wave.specs.Results.{parts_shown}
use Rattle.dym_wave.proofs.HandingOver.{stops_first}
use Rattle.dym_wave.proofs.object_queue.run_all.Goals as goal

pub returns-in_err-object_queue : goal.returns-in_err-object_queue
returns-in_err-object_queue g c =
    let t = g.C.Consumer in
    stops_first t.can_take t.takes t.fails c.args.output.now (parts_shown c.args.options.report c.args.parts.items) _ c.from_residual.ensures.1

pub returns : goal.returns
returns g c =
    let t = g.C.Consumer in
    let queue = c.in_ok-object_queue in
    let report = ap (λ (o : WaveOptions). o.report) queue.ensures.options in
    subst (λ l. HandsOver t.takes t.fails c.args.output.now l c.run_waves-ran.new.output c.run_waves-ran.result)
    (λ i. parts_shown (report i) (queue.ensures.parts i)) c.run_waves-ran.ensures.handed_over
