-- A number below 2 ^ 64 has at most 20 digits.
use Rattle.std.proofs.Common.{arith}
use Rattle.dym_io.proofs.Digits.{decimal_20}
use Rattle.dym_io.proofs.text.number.put_long.Goals as goal

pub write_digits-start-requires : goal.write_digits-start-requires
write_digits-start-requires c = (decimal_20 c.args.n c.ranges.n.fits, omega arith)
