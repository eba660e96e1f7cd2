use Rattle.std.proofs.Common.{arith}
use Rattle.dym_pack.proofs.Named.{most_per}
use Rattle.dym_pack.proofs.layout.map_bytes.Goals as goal

pub returns-clause-few : goal.returns-clause-few
returns-clause-few c = omega (arith, most_per c.args.class.exp c.args.class.least)
