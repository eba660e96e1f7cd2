use Rattle.dym_gen.proofs.Lengths.{object_line-le, command_line-le}
use Rattle.dym_gen.proofs.laws.lines_are_short.Goals as goal

pub returns : goal.returns
returns c = (object_line-le, command_line-le)
