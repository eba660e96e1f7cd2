-- The cells keep the laws of a model.
use Rattle.std.specs.Prelude.{ℕ, ◌+◌, ◌<◌, ◌%◌, cond, nat_lt, ◌==◌, [], Option, Some, None}
use Rattle.std.proofs.Common.{ap, arith}
use Rattle.std.proofs.lemmas.Bool.{le-ltb}
use Rattle.warp_base.specs.declared.event.Draft.{Draft}
use Rattle.warp_base.specs.Events.{Each}
use Rattle.warp_base.specs.Histories.{LooksAhead, StartsWithin, SendsWithin}
use Rattle.warp_base.proofs.Lists.{Each-append}
use Rattle.warp_models.specs.declared.cell_state.Call.{Call}
use Rattle.warp_models.specs.declared.cells.CellOptions.{CellOptions}
use Rattle.warp_models.specs.CellStates.{CellContents, drew, call_of}
use Rattle.warp_models.specs.Random.{seeded, drawn}
use Rattle.warp_models.specs.Sends.{in_time, Each-cond, Each-in_time}
use Rattle.warp_models.specs.Cells.{cell_draft, next_arrival, neighbour, has_channel, way_of_call, duration_drawn, begun_or_blocked, sent_at_arrival, sent_at_entry, sent_at_leaving, cells}

-- a fact of whatever cells send: it holds of what goes to the cell itself at any later time, and of what goes to a neighbour
module _ (o : CellOptions) (Q : Draft ℕ → Type 0) (p now : ℕ)
    (own : (delay kind payload : ℕ) → 0 < delay → Q (cell_draft (now + delay) (p % o.cells) kind payload))
    (next_to : (which payload : ℕ) → Q (cell_draft (now + 1) (neighbour o p which) 3 payload)) where
  Each-way : (s : CellContents) (duration : ℕ) → Each Q (in_time (way_of_call o p s duration now))
  Each-way s duration = Each-in_time Q (way_of_call o p s duration now) (own _ _ _ (omega arith))

  Each-arrival : (random : ℕ) → Each Q (in_time (next_arrival o p random now))
  Each-arrival random = Each-in_time Q (next_arrival o p random now) (own _ _ _ (omega arith))

  Each-leaving : (s : CellContents) (c : Option Call) → Each Q (sent_at_leaving o p s now c)
  Each-leaving s None = tt
  Each-leaving s (Some c) = Each-in_time Q (cell_draft (now + 1) (neighbour o p (drawn s.random 4)) 3 c.left) (next_to (drawn s.random 4) c.left)

  Each-sent : (s : CellContents) (kind payload : ℕ)
      → Each Q (cond (kind == 0) (sent_at_arrival o p s now) (cond (kind == 2) (sent_at_leaving o p s now (call_of payload s.calls)) (cond (kind == 3) (sent_at_entry o p s payload now) [])))
  Each-sent s kind payload =
      let begins = in_time (way_of_call o p (drew s) (duration_drawn o s) now) in
      let follows = in_time (next_arrival o p (begun_or_blocked o s).random now) in
      let leaves = sent_at_leaving o p s now (call_of payload s.calls) in
      let enters = sent_at_entry o p s payload now in
      Each-cond Q (kind == 0) (sent_at_arrival o p s now) (cond (kind == 2) leaves (cond (kind == 3) enters []))
      (Each-append Q (cond (has_channel o s) begins []) follows (Each-cond Q (has_channel o s) begins [] (Each-way (drew s) (duration_drawn o s)) tt) (Each-arrival (begun_or_blocked o s).random))
      (Each-cond Q (kind == 2) leaves (cond (kind == 3) enters []) (Each-leaving s (call_of payload s.calls))
      (Each-cond Q (kind == 3) enters [] (Each-cond Q (has_channel o s) (in_time (way_of_call o p s payload now)) [] (Each-way s payload) tt) tt))

module _ (o : CellOptions) where
  pub cells-looks_ahead : LooksAhead (cells o)
  cells-looks_ahead p s e =
      Each-sent o (λ d. e.time < d.time) p e.time (λ delay kind payload later. omega arith) (λ which payload. omega arith) s e.kind e.payload

  pub cells-starts_within : StartsWithin o.cells (cells o)
  cells-starts_within p beyond = ap (λ t. cond t (in_time (next_arrival o p (seeded o.seed p) 0)) []) (le-ltb p o.cells beyond)

  pub cells-sends_within : 0 < o.cells → SendsWithin o.cells (cells o)
  cells-sends_within some =
      let Q : Draft ℕ → Type 0 = λ d. d.receiver < o.cells in
      record {
        firsts = λ p.
            let first = next_arrival o p (seeded o.seed p) 0 in
            Each-cond Q (nat_lt p o.cells) (in_time first) [] (Each-in_time Q first (omega (arith, some))) tt;
        drafts = λ p s e.
            Each-sent o Q p e.time (λ delay kind payload later. omega (arith, some)) (λ which payload. omega (arith, some)) s e.kind e.payload;
      }
