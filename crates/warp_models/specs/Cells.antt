-- The cells of a mobile network: a call takes a channel of its cell and a power above the mean of the others; it ends there, or goes to a
-- neighbour, where it is dropped if no channel is free.
use Rattle.std.specs.Prelude.{ℕ, ◌+◌, ◌-◌, ◌*◌, ◌%◌, ◌^◌, ◌<◌, nat_lt, cond, ◌==◌, Bool, max, min, List, [], ◌++◌, length, Option, Some, None}
use Rattle.warp_base.specs.declared.event.Draft.{Draft}
use Rattle.warp_base.specs.Histories.{Behaviour}
use Rattle.warp_models.specs.declared.cell_state.Call.{Call}
use Rattle.warp_models.specs.declared.cells.CellOptions.{CellOptions}
use Rattle.warp_models.specs.CellStates.{CellContents, drew, call_of, joined, ended, lost}
use Rattle.warp_models.specs.Random.{next, seeded, drawn}
use Rattle.warp_models.specs.Sends.{in_time}

-- there is a cell, and what is random of a time is spread
abbrev pub IsSensible : CellOptions → Type 0
IsSensible o = (0 < o.cells) × (0 < o.interval) × (0 < o.duration) × (0 < o.stay)

-- an event: a call begins (kind 0), ends (1), leaves its cell (2), comes into another one (3)
abbrev pub cell_draft : ℕ → ℕ → ℕ → ℕ → Draft ℕ
cell_draft time receiver kind payload = record { time = time; priority = 0; receiver = receiver; kind = kind; payload = payload }

-- the next call of a cell begins after a random time
abbrev pub next_arrival : CellOptions → ℕ → ℕ → ℕ → Draft ℕ
next_arrival o p random now = cell_draft (now + (1 + drawn random (2 * o.interval))) (p % o.cells) 0 0

-- one of the four neighbours of a cell: the cells stand in rows, on a torus
abbrev pub neighbour : CellOptions → ℕ → ℕ → ℕ
neighbour o p which =
    (p + cond (which == 0) 1 (cond (which == 1) (o.cells - 1) (cond (which == 2) (o.width % o.cells) (o.cells - o.width % o.cells)))) % o.cells

abbrev pub has_channel : CellOptions → CellContents → Bool
has_channel o s = nat_lt (length s.calls) o.channels

-- how long the next call can stay in its cell
abbrev pub stay_drawn : CellOptions → CellContents → ℕ
stay_drawn o s = 1 + drawn s.random (2 * o.stay)

-- a call that lasts so long takes a channel; what is left of it after its stay goes to another cell
abbrev pub with_call : CellOptions → CellContents → ℕ → CellContents
with_call o s duration = joined (drew s) (duration - stay_drawn o s)

-- it leaves the cell after its stay, or ends before
abbrev pub way_of_call : CellOptions → ℕ → CellContents → ℕ → ℕ → Draft ℕ
way_of_call o p s duration now =
    cell_draft (now + max 1 (min duration (stay_drawn o s))) (p % o.cells) (cond (nat_lt (stay_drawn o s) duration) 2 1) s.begun

-- a call begins, if there is a channel for it, and the next one will
abbrev pub duration_drawn : CellOptions → CellContents → ℕ
duration_drawn o s = 1 + drawn s.random (2 * o.duration)

abbrev pub begun_or_blocked : CellOptions → CellContents → CellContents
begun_or_blocked o s =
    cond (has_channel o s) (with_call o (drew s) (duration_drawn o s)) (record s { random = next s.random; blocked = (s.blocked + 1) % 2 ^ 64 })

abbrev pub sent_at_arrival : CellOptions → ℕ → CellContents → ℕ → List (Draft ℕ)
sent_at_arrival o p s now =
    cond (has_channel o s) (in_time (way_of_call o p (drew s) (duration_drawn o s) now)) []
    ++ in_time (next_arrival o p (begun_or_blocked o s).random now)

-- a call comes from another cell, if there is a channel for it
abbrev pub after_entry : CellOptions → CellContents → ℕ → CellContents
after_entry o s duration = cond (has_channel o s) (with_call o s duration) (record s { dropped = (s.dropped + 1) % 2 ^ 64 })

abbrev pub sent_at_entry : CellOptions → ℕ → CellContents → ℕ → ℕ → List (Draft ℕ)
sent_at_entry o p s duration now = cond (has_channel o s) (in_time (way_of_call o p s duration now)) []

-- a call ends
abbrev pub after_end : CellContents → Option Call → CellContents
after_end s None = lost s
after_end s (Some c) = ended s c

-- a call goes to a neighbour, a tick later
abbrev pub after_leaving : CellContents → Option Call → CellContents
after_leaving s None = lost s
after_leaving s (Some c) = record (ended s c) { random = next s.random; handed = (s.handed + 1) % 2 ^ 64 }

abbrev pub sent_at_leaving : CellOptions → ℕ → CellContents → ℕ → Option Call → List (Draft ℕ)
sent_at_leaving o p s now None = []
sent_at_leaving o p s now (Some c) = in_time (cell_draft (now + 1) (neighbour o p (drawn s.random 4)) 3 c.left)

-- an event that is of no kind, or about a call that isn't here, is a fault
abbrev pub cells : CellOptions → Behaviour ℕ CellContents
cells o = record {
  start = λ p. record {
    random = next (seeded o.seed p);
    begun = 0;
    blocked = 0;
    dropped = 0;
    handed = 0;
    noise = 0;
    astray = 0;
    calls = [];
  };
  firsts = λ p. cond (nat_lt p o.cells) (in_time (next_arrival o p (seeded o.seed p) 0)) [];
  after = λ p s e.
      cond (e.kind == 0) (drew (begun_or_blocked o s))
      (cond (e.kind == 1) (after_end s (call_of e.payload s.calls))
      (cond (e.kind == 2) (after_leaving s (call_of e.payload s.calls))
      (cond (e.kind == 3) (after_entry o s e.payload) (lost s))));
  drafts = λ p s e.
      cond (e.kind == 0) (sent_at_arrival o p s e.time)
      (cond (e.kind == 2) (sent_at_leaving o p s e.time (call_of e.payload s.calls))
      (cond (e.kind == 3) (sent_at_entry o p s e.payload e.time) []));
  faulty = λ s. nat_lt 0 s.astray;
}
