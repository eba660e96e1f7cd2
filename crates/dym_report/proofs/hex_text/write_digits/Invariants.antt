use Rattle.std.proofs.Common.{length}
use Rattle.hex.specs.Hex.{encode_lower}
use Rattle.dym_io.specs.Sink.{Leaves}
use Rattle.dym_report.proofs.hex_text.write_digits.Given as goal

abbrev pub invariant-pieces : goal.invariant-pieces
invariant-pieces g l = Leaves (g.W.Sink.output l.initial.sink) (g.W.Sink.output l.sink) (encode_lower l.fn.bytes) (encode_lower l.rest)

abbrev pub decreases-pieces : goal.decreases-pieces
decreases-pieces g l = length l.rest
