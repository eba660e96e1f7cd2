-- What objects come to, one added after the other.
use Rattle.std.specs.Prelude.{◌≡◌, ◌+◌, ◌*◌, ◌^◌, ◌<◌, ◌≤◌, length}
use Rattle.dym_base.specs.declared.limits.TheConstants.{MOST_COMMANDS, MOST_OBJECTS}
use Rattle.dym_report.specs.Summary.{both_tallies}
use Rattle.dym_wave.specs.Results.{Shown, shown_tally}
use Rattle.dym_wave.specs.declared.wave_sum.WaveSum.{WaveSum}

-- the numbers are as small as those of so many objects are
pub record IsSmall (sum : WaveSum) : Type 0 where
  pub chunks : sum.tally.chunks ≤ sum.objects * 2 ^ 37
  pub segments : sum.tally.segments ≤ sum.objects * 2 ^ 32
  pub kept : sum.tally.kept ≤ sum.objects * 2 ^ 32
  pub slots : sum.tally.slots ≤ sum.objects * 2 ^ 32

-- another object may be added: there are no more than a script has objects and commands
pub record CanAdd (sum : WaveSum) (object : Shown) : Type 0 where
  pub small : IsSmall sum
  pub objects : sum.objects < MOST_OBJECTS
  pub replies : sum.tally.ok + sum.tally.refused + length object.replies ≤ MOST_COMMANDS

-- the sum with an object more
pub record IsSumWith (old : WaveSum) (object : Shown) (new : WaveSum) : Type 0 where
  pub tally : new.tally ≡ both_tallies old.tally (shown_tally object)
  pub objects : new.objects ≡ old.objects + 1
  pub replies : new.tally.ok + new.tally.refused ≡ old.tally.ok + old.tally.refused + length object.replies
  pub small : IsSmall new
