use Rattle.dym_trace.proofs.Once.{one_verdict}
use Rattle.dym_trace.proofs.Judged.{some_verdict}
use Rattle.dym_trace.proofs.verdict.one_verdict.Goals as goal

pub returns : goal.returns
returns _ = λ bytes. let some = some_verdict bytes in (some.0, some.1, λ y is. one_verdict bytes y some.0 is some.1)
