use Rattle.std.proofs.Common.{◌-◌, ◌^◌}
use Rattle.std.proofs.lemmas.Option.{IfSome_then}
use Rattle.dym_script.proofs.Spelled.{begins_number}
use Rattle.dym_script.proofs.quick.operands.number.Goals as goal

pub returns : goal.returns
returns c = IfSome_then c.digits_to.result c.digits_to.ensures (λ cut h. begins_number (2 ^ 64 - 1) _ _ _ _ c.in_ok-after_byte.ensures h.0 h.1)
