use Rattle.std.proofs.Common.{arith}
use Rattle.dym_slots.proofs.SlotPlaces.{inside_live}
use Rattle.dym_slots.proofs.laws.full_count_is_clean.Goals as goal

pub returns : goal.returns
returns _ c facts all s n live = facts.clean s n (let inside = inside_live c s n live in omega arith) live
