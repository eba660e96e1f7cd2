-- What the program tells of a run.
use Rattle.std.specs.Prelude.{◌≡◌, ℕ, List, [], ◌∷◌}
use Rattle.warp_base.specs.Histories.{Behaviour}
use Rattle.warp_models.specs.Checksums.{checksum_of, station_sum, phold_sum, cell_sum}
use Rattle.warp_models.specs.Queues.{ring}
use Rattle.warp_models.specs.Phold.{phold}
use Rattle.warp_models.specs.Cells.{cells}
use Rattle.warp_run.specs.Ends.{IsEnd, FaultsAt, FaultsFirstAt, IsTooLong, IsHalfTooLong}
use Rattle.warp_run.specs.Failures.{MatchFailure}
use Rattle.warp_run.specs.declared.finished.Failure.{Failure}
use Rattle.timewarp.specs.declared.words.Choice.{Choice}
use Rattle.timewarp.specs.declared.words.Way.{Way}
use Rattle.timewarp.specs.declared.words.Way.TheVariants.{InOrder, Ahead}
use Rattle.timewarp.specs.declared.words.Choice.TheVariants.{Phold, Cells, Queues}

-- so many events were run in order to the end, and the states then have this checksum
pub record TellsEnd {P S : Type 0} (words : P → List ℕ) (b : Behaviour P S) (n : ℕ) (sum_of : S → ℕ) (end committed checksum : ℕ) : Type 0 where
  pub states : List S
  pub is_end : IsEnd words b n end states committed
  pub sum : checksum ≡ checksum_of sum_of states

-- the same of the model that was chosen. An event of PHOLD and of the cells carries a number, one of the queues nothing
abbrev pub Tells : Choice → ℕ → ℕ → ℕ → Type 0
Tells (Phold m) = TellsEnd (λ n. n ∷ []) (phold m.options) m.options.processes phold_sum
Tells (Cells m) = TellsEnd (λ n. n ∷ []) (cells m.options) m.options.cells cell_sum
Tells (Queues m) = TellsEnd (λ _. []) (ring m.options) m.options.stations station_sum

-- why there is no end to tell. In order a fault is the first one that the run meets, and events are too many where 64 bits don't count them; by
-- workers a fault is one that the run in order meets, and where events are too many that run has half as many
abbrev pub FailsAs : {P S : Type 0} → Way → (P → List ℕ) → Behaviour P S → ℕ → ℕ → Failure → Type 0
FailsAs InOrder words b n end = MatchFailure (FaultsFirstAt words b n end) (IsTooLong words b n end)
FailsAs (Ahead workers window period) words b n end = MatchFailure (FaultsAt words b n end) (IsHalfTooLong words b n end)

abbrev pub Fails : Choice → Way → ℕ → Failure → Type 0
Fails (Phold m) way = FailsAs way (λ n. n ∷ []) (phold m.options) m.options.processes
Fails (Cells m) way = FailsAs way (λ n. n ∷ []) (cells m.options) m.options.cells
Fails (Queues m) way = FailsAs way (λ _. []) (ring m.options) m.options.stations
