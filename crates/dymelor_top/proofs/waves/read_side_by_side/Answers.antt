use Rattle.std.proofs.Common.{sym, subst}
use Rattle.dym_script.specs.Parts.{KeepsParts}
use Rattle.dymelor_top.specs.Calls.{ReadsSource, SameVerdict, TellsScript}
use Rattle.dymelor_top.specs.Headline.{Input}
use Rattle.dymelor_top.proofs.ReadBlocks.{bytes_stopped, bytes_made, bytes_failed}
use Rattle.dymelor_top.proofs.SourceReads.{passed}
use Rattle.dymelor_top.proofs.waves.read_side_by_side.Goals as goal

pub returns-in_err-bytes : goal.returns-in_err-bytes
returns-in_err-bytes g c =
    let old : Input = record { left = g.S.Source.left c.args.source.now; faults = g.S.Source.faults c.args.source.now } in
    let new : Input = record { left = g.S.Source.left c.read_input.new.source; faults = g.S.Source.faults c.read_input.new.source } in
    passed (ReadsSource (TellsScript KeepsParts) old new) _ _ c.from_residual.ensures.1
    (bytes_stopped _ KeepsParts old new _ (λ bytes line kind no. no) c.in_err-bytes.ensures)

pub returns-in_err-read_parallel : goal.returns-in_err-read_parallel
returns-in_err-read_parallel g c =
    let old : Input = record { left = g.S.Source.left c.args.source.now; faults = g.S.Source.faults c.args.source.now } in
    let new : Input = record { left = g.S.Source.left c.read_input.new.source; faults = g.S.Source.faults c.read_input.new.source } in
    passed (ReadsSource (TellsScript KeepsParts) old new) _ _ c.from_residual-in_err-read_parallel.ensures.1
    (bytes_failed _ KeepsParts old new _ c.deref.result.now (λ bytes told. subst (λ l. SameVerdict l bytes) (sym c.deref.ensures.value) told)
    c.in_ok-bytes.ensures c.in_err-read_parallel.field-0.0 c.in_err-read_parallel.ensures)

pub returns : goal.returns
returns g c =
    let old : Input = record { left = g.S.Source.left c.args.source.now; faults = g.S.Source.faults c.args.source.now } in
    let new : Input = record { left = g.S.Source.left c.read_input.new.source; faults = g.S.Source.faults c.read_input.new.source } in
    bytes_made _ KeepsParts old new _ c.deref.result.now (λ bytes told. subst (λ l. SameVerdict l bytes) (sym c.deref.ensures.value) told)
    c.in_ok-bytes.ensures _ c.in_ok-read_parallel.ensures
