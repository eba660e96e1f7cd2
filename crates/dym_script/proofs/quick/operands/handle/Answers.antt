use Rattle.std.proofs.Common.{arith}
use Rattle.dym_script.proofs.Spelled.{begins_handle}
use Rattle.dym_script.proofs.quick.operands.handle.Goals as goal

pub returns : goal.returns
returns c = begins_handle _ _ _ _ _ _ c.in_ok-after_byte.ensures c.in_ok-exp.ensures c.in_ok-number.ensures.0 (omega (arith, c.in_ok-number.ensures.1, c.from.ensures))
