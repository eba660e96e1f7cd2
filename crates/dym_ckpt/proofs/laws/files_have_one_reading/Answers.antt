use Rattle.dym_ckpt.proofs.OneReading.{one_reading}
use Rattle.dym_ckpt.proofs.laws.files_have_one_reading.Goals as goal

pub returns : goal.returns
returns c = one_reading
