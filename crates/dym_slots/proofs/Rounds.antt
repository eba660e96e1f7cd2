-- What the walk over all slots keeps.
use Rattle.std.proofs.Common.{◌≡◌, ℕ, ◌+◌, ◌≤◌}
use Rattle.dym_slots.specs.declared.machine.TheConstants.{RECORD_NUMBERS}
use Rattle.dym_slots.specs.SeatViews.{sweeper_of}
use Rattle.dym_slots.specs.TableStates.{Knowing}
use Rattle.dym_slots.specs.Moves.{IsIdleSweeper}

-- after the slots below one, with so many records taken back, where the root was last read at this number
pub record Round (root slot taken : ℕ) (before me : Knowing) : Type 0 where
  pub idle : IsIdleSweeper me
  pub root_is : root ≡ (sweeper_of me.0).root_seen
  pub numbered : root ≤ RECORD_NUMBERS
  pub least_root : (sweeper_of me.0).least_root ≡ (sweeper_of before.0).least_root
  pub clean : (sweeper_of me.0).clean ≡ slot
  pub rounds : (sweeper_of me.0).rounds ≡ (sweeper_of before.0).rounds
  pub count : (sweeper_of me.0).taken_back ≡ (sweeper_of before.0).taken_back + taken
  pub few : taken ≤ slot
