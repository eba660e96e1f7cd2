use Rattle.std.proofs.Common.{arith}
use Rattle.dym_base.specs.declared.limits.TheConstants.{MOST_READ_BYTES}
use Rattle.dym_script.proofs.Spelled.{begins_number}
use Rattle.dym_script.proofs.quick.operands.read_len.Goals as goal

pub returns : goal.returns
returns c = begins_number MOST_READ_BYTES _ _ _ _ c.in_ok-after_byte.ensures c.in_ok-number.ensures.0 (omega (arith, c.in_ok-number.ensures.1, c.from.ensures))
