use Rattle.std.proofs.Common.{inl, refl, Err}
use Rattle.dymelor_top.specs.Calls.{ReadsSource}
use Rattle.dymelor_top.specs.Headline.{Input}
use Rattle.dymelor_top.proofs.SourceReads.{passed, made, not_read}
use Rattle.dymelor_top.proofs.WholeInput.{input_left, input_same}
use Rattle.dymelor_top.proofs.read_input.read_input.Goals as goal

pub returns-in_err-read_whole : goal.returns-in_err-read_whole
returns-in_err-read_whole g c =
    let old : Input = record { left = g.R.Source.left c.args.source.now; faults = g.R.Source.faults c.args.source.now } in
    let new : Input = record { left = g.R.Source.left c.read_whole.new.source; faults = g.R.Source.faults c.read_whole.new.source } in
    passed (ReadsSource _ old new) _ _ c.from_residual.ensures.1
    (not_read _ old new (Err c.in_err-read_whole.field-0.0) _ refl (λ bytes. tt) (λ bytes. tt) c.read_whole.ensures.bounded
    c.in_err-read_whole.ensures.failed c.in_err-read_whole.ensures.count)

pub returns : goal.returns
returns g c =
    let old : Input = record { left = g.R.Source.left c.args.source.now; faults = g.R.Source.faults c.args.source.now } in
    let new : Input = record { left = g.R.Source.left c.read_whole.new.source; faults = g.R.Source.faults c.read_whole.new.source } in
    let is = c.in_ok-read_whole.ensures in
    made _ old new _ (_, inl refl) (λ bytes known. input_same old.left new.left _ bytes known is.taken is.within is.ended)
    (λ bytes known. input_left old.left new.left _ bytes known is.taken is.within is.ended) c.read_whole.ensures.bounded
    (is.count (λ other. absurd (cc)))
