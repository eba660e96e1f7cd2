use Rattle.std.proofs.Common.{length}
use Rattle.dym_script.proofs.AheadLines.{AheadTo}
use Rattle.dym_script.proofs.read_ahead.read_ahead.Given as goal

abbrev pub invariant-loop-lines : goal.invariant-loop-lines
invariant-loop-lines l = AheadTo l.reader.objects.items l.text l.own.items l.lines l.rest

abbrev pub decreases-loop-lines : goal.decreases-loop-lines
decreases-loop-lines l = length l.rest
