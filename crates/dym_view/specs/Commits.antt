-- A commit: a time and a whole copy of a heap.
use Rattle.std.specs.Prelude.{ℕ, ◌+◌, List, [], ◌∷◌, sum, sum_by, length, take, drop, nat_lt, if◌then◌else◌, Option, None, Some}
use Rattle.std.specs.FinMap.{get, entries}
use Rattle.dym_base.specs.Heaps.{Live}
use Rattle.dym_base.specs.HeapStep.{key}
use Rattle.dym_base.specs.Objects.{LogEntry}
use Rattle.dym_base.specs.declared.handle.Handle.{Handle}

pub record CommitMeaning : Type 0 where
  pub time : ℕ
  pub copy : Live

-- a log as it is committed
abbrev pub committed : LogEntry → CommitMeaning
committed e = record { time = e.time; copy = e.copy }

-- the oldest of kept logs, which stands first
abbrev pub oldest : List LogEntry → Option LogEntry
oldest [] = None
oldest (e ∷ es) = Some e

-- the sum of all bytes of all chunks, as numbers
abbrev pub total_of : Live → ℕ
total_of copy = sum_by (λ e. sum e.1) (entries copy)

-- n bytes from `at` on, where there are so many
abbrev pub part_of : Option (List ℕ) → ℕ → ℕ → Option (List ℕ)
part_of None at n = None
part_of (Some bytes) at n = if nat_lt (length bytes) (at + n) then None else Some (take n (drop at bytes))

-- n bytes of the chunk of a handle from `at` on, where the copy has them
abbrev pub part_in : Live → Handle → ℕ → ℕ → Option (List ℕ)
part_in copy h at n = part_of (get copy (key h)) at n
