use Rattle.dym_trace.proofs.Reading.{one_reading}
use Rattle.dym_trace.proofs.verdict.one_reading.Goals as goal

pub returns : goal.returns
returns _ = one_reading
