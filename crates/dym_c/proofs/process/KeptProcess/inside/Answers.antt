use Rattle.std.proofs.Common.{◌≡◌, ◌∙◌, ap, sym, true, is_none}
use mathlib.Core.Logic.{inr}
use Rattle.dym_c.specs.ProcessMeanings.{ProcessMeaning}
use Rattle.dym_c.specs.declared.kept.Kept.{Kept}
use Rattle.dym_c.specs.declared.process.KeptProcess.{KeptProcess}
use Rattle.dym_c.proofs.process.KeptProcess.inside.Goals as goal

abbrev of_kept : Kept ProcessMeaning → KeptProcess
of_kept k = record { at = k.at; value = k.value }

pub returns-then-is_closed : goal.returns-then-is_closed
returns-then-is_closed c =
    let kept = c.as_kept-kept.ensures.value in
    let closed : true ≡ is_none c.args.self.now.value = sym c.if-is_closed.true ∙ c.is_closed.ensures.closed ∙ ap (λ (k : Kept ProcessMeaning). is_none k.value) kept in
    (ap inr (ap of_kept (c.is_closed.ensures.same ∙ kept)), record { writes_back = tt; closed = closed; value = tt })
