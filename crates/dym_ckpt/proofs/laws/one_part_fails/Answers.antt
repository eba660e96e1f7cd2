use Rattle.dym_ckpt.proofs.OneReading.{one_part}
use Rattle.dym_ckpt.proofs.laws.one_part_fails.Goals as goal

pub returns : goal.returns
returns c = one_part
