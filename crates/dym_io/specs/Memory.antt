-- A source and a sink in memory, and which of their calls fail.
use Rattle.std.specs.Prelude.{◌≡◌, ℕ, ◌-◌, min, List, length, Contains, Some}
use Rattle.dym_io.specs.Sink.{Output}

-- A source in memory: the bytes that are left, the most that it gives in a call, and the calls that fail, numbered from 0.
pub record MemInput : Type 0 where
  pub left : List ℕ
  pub piece : ℕ
  pub fails : List ℕ
  pub calls : ℕ
  pub faults : ℕ

-- A sink in memory: the bytes written and how many of them were flushed, the most that it holds in all and takes in a call,
-- and the calls that fail, numbered from 0.
pub record MemOutput : Type 0 where
  pub written : List ℕ
  pub flushed : ℕ
  pub room : ℕ
  pub piece : ℕ
  pub fails : List ℕ
  pub calls : ℕ
  pub faults : ℕ

-- What a sink in memory tells: all of it.
abbrev pub output_of : MemOutput → Output
output_of s = record { written = Some s.written; flushed = Some s.flushed; faults = s.faults }

-- How many bytes a call gives, with room for `len`.
abbrev pub given : MemInput → ℕ → ℕ
given s len = min (min len s.piece) (length s.left)

-- How many bytes of a piece a call takes.
abbrev pub accepted : MemOutput → ℕ → ℕ
accepted s len = min (min len s.piece) (s.room - length s.written)

-- The next call is named as one that fails.
abbrev pub SourceFails : MemInput → Type 0
SourceFails s = Contains s.fails s.calls

abbrev pub SinkFails : MemOutput → Type 0
SinkFails s = Contains s.fails s.calls

-- The sink has no room left.
abbrev pub IsFull : MemOutput → Type 0
IsFull s = length s.written ≡ s.room
