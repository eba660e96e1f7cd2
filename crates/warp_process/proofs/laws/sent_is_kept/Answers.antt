use Rattle.warp_process.proofs.Runs.{sent_kept}
use Rattle.warp_process.proofs.laws.sent_is_kept.Goals as goal

pub returns : goal.returns
returns g c b past f h = sent_kept b f.number past f.events f.marks f.sent f.serial h.run
