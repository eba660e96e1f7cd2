use Rattle.dym_area.proofs.Classes.{bit_seen}
use Rattle.dym_area.proofs.chunks.Area.clear_dirty_at.Goals as goal

pub clear-requires : goal.clear-requires
clear-requires g c = bit_seen c.self.view_is c.self.invariant.valid c.args.i c.requires
