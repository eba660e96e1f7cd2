-- The limits of the product as numbers, so that a constant that was changed is refused. The names stand in src/limits.rt.
use Rattle.std.specs.Prelude.{◌≡◌, ◌^◌}
use Rattle.dym_base.specs.declared.limits.TheConstants.{SEGMENT_BYTES, LEAST_EXPONENT, GREATEST_EXPONENT, CLASSES, MOST_CHUNKS, MOST_QUOTA}
use Rattle.dym_base.specs.declared.limits.TheConstants.{MOST_KEPT_LOGS, MOST_DEPTH, MOST_RECORDS, RECORD_ROOM, LOG_SLOTS, LOG_WORDS}
use Rattle.dym_base.specs.declared.limits.TheConstants.{MOST_INPUT_BYTES, MOST_LINE_BYTES, MOST_OBJECTS, MOST_COMMANDS, MOST_MADE_COMMANDS}
use Rattle.dym_base.specs.declared.limits.TheConstants.{MOST_READ_BYTES, MOST_NAME_BYTES}
use Rattle.dym_base.specs.declared.limits.TheConstants.{MOST_WORKERS, DEFAULT_WORKERS, MOST_SEGMENTS, DEFAULT_SEGMENTS, MOST_QUANTUM, DEFAULT_QUANTUM}
use Rattle.dym_base.specs.declared.limits.TheConstants.{COUNT_LIMIT}
use Rattle.dym_base.specs.declared.limits.TheConstants.{MOST_LATE_LINES, MOST_LATE_EVENTS, EVENTS_PER_LATE_LOG}

-- a segment, its classes and chunks, and how many segments an object may hold
pub record HeapLimits : Type 0 where
  pub segment : SEGMENT_BYTES ≡ 65536
  pub least_class : LEAST_EXPONENT ≡ 5
  pub greatest_class : GREATEST_EXPONENT ≡ 16
  pub classes : CLASSES ≡ 12
  pub chunks : MOST_CHUNKS ≡ 2048
  pub quota : MOST_QUOTA ≡ 1024

-- an object's logs, and the table of their records
pub record LogLimits : Type 0 where
  pub kept : MOST_KEPT_LOGS ≡ 256
  pub depth : MOST_DEPTH ≡ 31
  pub records : MOST_RECORDS ≡ 287
  pub room : RECORD_ROOM ≡ 288
  pub slots : LOG_SLOTS ≡ 320
  pub words : LOG_WORDS ≡ 321

-- scripts, their lines and names
pub record ScriptLimits : Type 0 where
  pub input : MOST_INPUT_BYTES ≡ 16777216
  pub line : MOST_LINE_BYTES ≡ 4096
  pub objects : MOST_OBJECTS ≡ 4096
  pub commands : MOST_COMMANDS ≡ 1048576
  pub made : MOST_MADE_COMMANDS ≡ 200000
  pub read : MOST_READ_BYTES ≡ 256
  pub name : MOST_NAME_BYTES ≡ 32

-- workers, the segments of their region, the commands of a turn, and what is counted
pub record RunLimits : Type 0 where
  pub workers : MOST_WORKERS ≡ 64
  pub usual_workers : DEFAULT_WORKERS ≡ 4
  pub segments : MOST_SEGMENTS ≡ 16384
  pub usual_segments : DEFAULT_SEGMENTS ≡ 1024
  pub quantum : MOST_QUANTUM ≡ 65536
  pub usual_quantum : DEFAULT_QUANTUM ≡ 64
  pub counts : COUNT_LIMIT ≡ 2 ^ 60

-- late events: lines of a script, events of an object, and how far apart the logs of its heap are
pub record LateLimits : Type 0 where
  pub lines : MOST_LATE_LINES ≡ 65536
  pub events : MOST_LATE_EVENTS ≡ 4096
  pub apart : EVENTS_PER_LATE_LOG ≡ 16

abbrev pub LimitsAreThese : Type 0
LimitsAreThese = HeapLimits × LogLimits × ScriptLimits × RunLimits × LateLimits
