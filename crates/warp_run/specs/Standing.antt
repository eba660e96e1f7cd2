-- Lists that hold what a run in order holds of its processes.
use Rattle.std.specs.Prelude.{◌≡◌, ℕ, ◌<◌, List, length, slice_get, Some}
use Rattle.warp_base.specs.declared.event.Event.{Event}
use Rattle.warp_base.specs.Sequential.{Run}

-- the states and the counts of what was sent, of processes 0 to n - 1, and the queue
pub record StandsAt {P S : Type 0} (n : ℕ) (r : Run P S) (states : List S) (serials : List ℕ) (queue : List (Event P)) : Type 0 where
  pub state_count : length states ≡ n
  pub state : (p : ℕ) → p < n → slice_get states p ≡ Some (r.states p)
  pub serial_count : length serials ≡ n
  pub serial : (p : ℕ) → p < n → slice_get serials p ≡ Some (r.serials p)
  pub waiting : queue ≡ r.queue
