use Rattle.std.proofs.Common.{arith}
use Rattle.dym_slots.proofs.Room.{room}
use Rattle.dym_slots.proofs.laws.put_has_room.Goals as goal

pub returns : goal.returns
returns _ c slots entries = let all = room c in omega arith
