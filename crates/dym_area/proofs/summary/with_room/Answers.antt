use Rattle.std.proofs.Common.{◌/◌, arith, w32}
use Rattle.std.proofs.lemmas.Nat.Bits.{bit_at_set_same, bit_at_set_other}
use Rattle.dym_area.proofs.summary.with_room.Goals as goal

pub returns-clause-same : goal.returns-clause-same
returns-clause-same c = bit_at_set_same w32 c.args.room (c.args.i / 64) (omega arith)

pub returns-clause-others : goal.returns-clause-others
returns-clause-others c q other = bit_at_set_other w32 c.args.room (c.args.i / 64) (omega arith) q other
