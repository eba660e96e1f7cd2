use Rattle.std.proofs.Common.{refl}
use Rattle.dym_slots.specs.Slots.{state_of}
use Rattle.dym_slots.proofs.Leaving.{left_at}
use Rattle.dym_slots.proofs.laws.only_the_list_is_left.Goals as goal

pub returns : goal.returns
returns _ c facts owner sweeper all seen s = left_at c s facts owner sweeper all seen (state_of c s) refl
