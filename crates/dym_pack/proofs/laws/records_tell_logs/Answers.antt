use Rattle.dym_pack.proofs.Tells.{record_tells}
use Rattle.dym_pack.proofs.laws.records_tell_logs.Goals as goal

pub returns : goal.returns
returns c = record_tells
