use Rattle.std.proofs.Common.{◌+◌, ◌≤◌, length}
use Rattle.dym_script.specs.LateAnswers.{IsValidLateReader, late_reading_of}
use Rattle.dym_script.proofs.LateRead.{ReadTo}
use Rattle.dym_script.proofs.late_reader.read_late.Given as goal

abbrev pub invariant-loop-line : goal.invariant-loop-line
invariant-loop-line l = record {
  kept : IsValidLateReader l.reader;
  short : l.number + length l.rest ≤ length l.bytes;
  read : ReadTo l.bytes (late_reading_of l.reader) l.number l.rest;
}

abbrev pub decreases-loop-line : goal.decreases-loop-line
decreases-loop-line l = length l.rest
