-- The logs that a record can hold. Of the bytes of such a log there is one reading.
use Rattle.std.specs.Prelude.{◌≡◌, ℕ, ◌^◌, ◌<◌, ◌≤◌, true}
use Rattle.std.specs.FinMap.{contains_key}
use Rattle.std.specs.FinSet.{contains}
use Rattle.dym_base.specs.Heaps.{held}
use Rattle.dym_base.specs.Laws.{IsWellSized}
use Rattle.dym_base.specs.Packed.{Logged}
use Rattle.dym_base.specs.declared.limits.TheConstants.{MOST_QUOTA}

-- a log that a record can hold: each chunk is of a class from 5 to 16 and has a length of it, what the log found touched is in
-- its copy, there are at most as many areas as the greatest quota, and the time has 64 bits
pub record IsRecorded (log : Logged) : Type 0 where
  pub sized : IsWellSized log.version log.copy
  pub found_live : (k : ℕ) → contains log.found k ≡ true → contains_key log.copy k ≡ true
  pub few : held log.copy ≤ MOST_QUOTA
  pub time : log.time < 2 ^ 64
