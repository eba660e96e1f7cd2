use Rattle.std.proofs.Common.{◌≡◌, sym, subst}
use Rattle.dym_io.specs.Sink.{WritesOr}
use Rattle.dym_report.specs.declared.write_fail.WriteFail.TheVariants as fail
use Rattle.dymelor_top.specs.WaveTexts.{waves_text}
use Rattle.dymelor_top.proofs.waves.run_fitting.Goals as goal

pub returns-in-Report : goal.returns-in-Report
returns-in-Report g c s are =
    subst
    (λ t. WritesOr (λ failed. failed ≡ fail.Sink) (g.W.Sink.output c.args.sink.now) (g.W.Sink.output c.report_waves.new.sink) (waves_text t s) c.report_waves.result)
    (sym c.in-Report.is) (c.report_waves.ensures s are)

pub returns-in-Summary : goal.returns-in-Summary
returns-in-Summary g c s are =
    subst (λ t. WritesOr (λ failed. failed ≡ fail.Sink) (g.W.Sink.output c.args.sink.now) (g.W.Sink.output c.summarize.new.sink) (waves_text t s) c.summarize.result)
    (sym c.in-Summary.is) (c.summarize.ensures s are)

pub returns-in-Views : goal.returns-in-Views
returns-in-Views g c s are =
    subst (λ t. WritesOr (λ failed. failed ≡ fail.Sink) (g.W.Sink.output c.args.sink.now) (g.W.Sink.output c.report_waves-in-Views.new.sink) (waves_text t s)
    c.report_waves-in-Views.result)
    (sym c.in-Views.is) (c.report_waves-in-Views.ensures s are)
