use Rattle.std.proofs.Common.{arith}
use Rattle.dym_ckpt.proofs.Headers.{number_is}
use Rattle.dym_ckpt.proofs.header.number_in.Goals as goal

pub returns-clause-is : goal.returns-clause-is
returns-clause-is c =
    number_is c.args.bytes.now c.in_ok-four.four.now c.in_ok-four.rest.now c.from_le_bytes.result (λ i. omega (arith, c.type_inv.bytes i)) (omega (arith, c.in_ok-four.ensures.cases)) c.in_ok-four.ensures.cases.0 c.in_ok-four.ensures.cases.1 c.from_le_bytes.ensures
