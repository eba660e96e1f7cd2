use Rattle.std.proofs.Common.{arith}
use Rattle.dym_script.proofs.Spelled.{begins_number}
use Rattle.dym_script.proofs.quick.operands.byte_value.Goals as goal

pub returns : goal.returns
returns c = begins_number 255 _ _ _ _ c.in_ok-after_byte.ensures c.in_ok-number.ensures.0 (omega (arith, c.in_ok-number.ensures.1, c.from.ensures))
