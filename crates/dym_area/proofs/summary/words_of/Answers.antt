use Rattle.std.proofs.Common.{arith}
use Rattle.dym_area.proofs.Classes.{per_small}
use Rattle.dym_area.proofs.summary.words_of.Goals as goal

pub returns-clause-most : goal.returns-clause-most
returns-clause-most c = omega (arith, c.div_ceil.ensures, c.per_area.ensures, per_small c.args.class.exp c.args.class.least)
