use Rattle.dym_area.proofs.Classes.{bit_seen}
use Rattle.dym_area.proofs.chunks.Area.is_dirty.Goals as goal

pub get-requires : goal.get-requires
get-requires g c = bit_seen c.self.view_is c.self.invariant.valid c.args.i c.requires
