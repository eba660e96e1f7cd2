use Rattle.std.proofs.Common.{◌≡◌, length}
use Rattle.dym_report.specs.Hex.{trimmed}
use Rattle.dym_report.proofs.hex_text.without_zero_bytes.Given as goal

abbrev pub invariant-bytes : goal.invariant-bytes
invariant-bytes l = trimmed l.rest ≡ trimmed l.fn.bytes

abbrev pub decreases-bytes : goal.decreases-bytes
decreases-bytes l = length l.rest
