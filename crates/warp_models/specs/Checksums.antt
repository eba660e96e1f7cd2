-- Checksums of states, which two runs of one model are compared by.
use Rattle.std.specs.Prelude.{ℕ, ◌+◌, ◌%◌, ◌^◌, bit_xor, List, [], ◌∷◌, fold, reverse}
use Rattle.warp_models.specs.declared.queues.Station.{Station}
use Rattle.warp_models.specs.declared.cell_state.Call.{Call}
use Rattle.warp_models.specs.PholdStates.{PholdContents}
use Rattle.warp_models.specs.CellStates.{CellContents}
use Rattle.warp_models.specs.Random.{mixed}

-- a sum with a number more
abbrev pub with_number : ℕ → ℕ → ℕ
with_number sum number = mixed (bit_xor sum number)

abbrev pub plus : ℕ → ℕ → ℕ
plus a b = (a + b) % 2 ^ 64

-- of a station
abbrev pub station_sum : Station → ℕ
station_sum s = with_number (plus (mixed s.random) s.waiting) s.served

-- of a process of PHOLD: of its counters, and then of each number
abbrev pub phold_sum : PholdContents → ℕ
phold_sum s = fold with_number (bit_xor (mixed (plus (mixed s.random) s.events)) s.worked) s.numbers

-- of a cell: of its counters, and then of each call, the newest first
abbrev pub with_call : ℕ → Call → ℕ
with_call sum c = bit_xor (mixed (plus (with_number sum c.number) c.power)) c.left

abbrev pub cell_sum : CellContents → ℕ
cell_sum s =
    let begun = mixed (plus (mixed s.random) s.begun) in
    let refused = plus (with_number begun s.blocked) s.dropped in
    fold with_call (plus (with_number refused s.handed) s.noise) (reverse s.calls)

-- of all processes, from process k on, whatever the sum of a state is
abbrev pub checksum_from : {S : Type 0} → (S → ℕ) → ℕ → List S → ℕ
checksum_from sum_of k [] = 0
checksum_from sum_of k (s ∷ ss) = plus (mixed (plus (sum_of s) k)) (checksum_from sum_of (k + 1) ss)

abbrev pub checksum_of : {S : Type 0} → (S → ℕ) → List S → ℕ
checksum_of sum_of states = checksum_from sum_of 0 states
