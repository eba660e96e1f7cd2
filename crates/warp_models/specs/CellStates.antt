-- The state of a cell, and what happens to its calls.
use Rattle.std.specs.Prelude.{ℕ, ◌+◌, ◌/◌, ◌%◌, ◌^◌, ◌==◌, not, bit_xor, List, [], ◌∷◌, ◌++◌, length, filter, fold, Option}
use Rattle.std.specs.List.{find}
use Rattle.warp_models.specs.declared.cell_state.Call.{Call}
use Rattle.warp_models.specs.Random.{mixed, next, drawn}

-- the generator of its random numbers; how many calls began or came here; how many found no free channel, as they began and as they came from
-- another cell; how many went to another cell; what is over, mixed; how many events were about a call that isn't here; and the calls, the
-- oldest first
pub record CellContents : Type 0 where
  pub random : ℕ
  pub begun : ℕ
  pub blocked : ℕ
  pub dropped : ℕ
  pub handed : ℕ
  pub noise : ℕ
  pub astray : ℕ
  pub calls : List Call

-- a number was drawn
abbrev pub drew : CellContents → CellContents
drew s = record s { random = next s.random }

-- the call of this number
abbrev pub call_of : ℕ → List Call → Option Call
call_of number calls = find (λ (c : Call). c.number == number) calls

-- what calls send with, together
abbrev pub power_of : List Call → ℕ
power_of calls = fold (λ (sum : ℕ) (c : Call). (sum + c.power) % 2 ^ 64) 0 calls

-- the next call takes a channel: its power is the mean of the others and some more; so much is left of it when it leaves the cell
abbrev pub next_call : CellContents → ℕ → Call
next_call s left = record {
  number = s.begun;
  power = (1 + drawn s.random 100 + power_of s.calls / (length s.calls + 1)) % 2 ^ 64;
  left = left;
}

abbrev pub joined : CellContents → ℕ → CellContents
joined s left = record s { random = next s.random; begun = (s.begun + 1) % 2 ^ 64; calls = s.calls ++ next_call s left ∷ [] }

-- a call is over here
abbrev pub ended : CellContents → Call → CellContents
ended s c = record s {
  noise = (mixed (bit_xor s.noise c.number) + c.power) % 2 ^ 64;
  calls = filter (λ (other : Call). not (other.number == c.number)) s.calls;
}

-- an event was about a call that isn't here
abbrev pub lost : CellContents → CellContents
lost s = record s { astray = (s.astray + 1) % 2 ^ 64 }
