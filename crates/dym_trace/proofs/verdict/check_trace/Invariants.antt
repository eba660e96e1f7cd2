use Rattle.std.proofs.Common.{◌≡◌, ◌+◌, ◌≤◌, length, take, drop}
use Rattle.dym_base.specs.Lines.{lines_of}
use Rattle.dym_trace.specs.Machine.{core_of, IsSound}
use Rattle.dym_trace.specs.Verdict.{Reach}
use Rattle.dym_trace.proofs.verdict.check_trace.Given as goal

-- the lines so far lead to the machine's state, and the rest has the lines after them
abbrev pub invariant-loop-rest : goal.invariant-loop-rest
invariant-loop-rest l = record {
  sound : IsSound l.machine;
  reached : Reach (take l.events (lines_of l.bytes)) (core_of l.machine);
  rest : drop l.events (lines_of l.bytes) ≡ lines_of l.rest;
  within : l.events ≤ length (lines_of l.bytes);
  count : l.events + length l.rest ≤ length l.bytes;
}

abbrev pub decreases-loop-rest : goal.decreases-loop-rest
decreases-loop-rest l = length l.rest
