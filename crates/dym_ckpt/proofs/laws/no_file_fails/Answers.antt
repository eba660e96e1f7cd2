use Rattle.dym_ckpt.proofs.OneReading.{no_file}
use Rattle.dym_ckpt.proofs.laws.no_file_fails.Goals as goal

pub returns : goal.returns
returns c = no_file
