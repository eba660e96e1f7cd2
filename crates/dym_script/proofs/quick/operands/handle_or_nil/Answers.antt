use Rattle.std.proofs.Common.{codes, refl, rules, arith}
use Rattle.dym_script.proofs.Spelled.{starts, begins_some, begins_nil}
use Rattle.dym_script.proofs.quick.operands.handle_or_nil.Goals as goal

pub returns-in-Some : goal.returns-in-Some
returns-in-Some c = begins_some _ _ _ c.in-Some.ensures

pub returns-in-32 : goal.returns-in-32
returns-in-32 c = begins_nil _ _ (starts _ (codes " nil") _ (omega arith) (search rules) refl)
