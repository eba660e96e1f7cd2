use Rattle.std.proofs.Common.{◌≡◌, length}
use Rattle.dym_report.specs.Hex.{trimmed}
use Rattle.dym_report.proofs.hex_text.without_zero_blocks.Given as goal

abbrev pub invariant-blocks-2 : goal.invariant-blocks-2
invariant-blocks-2 l = trimmed l.rest ≡ trimmed l.fn.bytes

abbrev pub decreases-blocks-2 : goal.decreases-blocks-2
decreases-blocks-2 l = length l.rest
