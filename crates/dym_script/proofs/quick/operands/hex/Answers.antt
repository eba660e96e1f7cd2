use Rattle.std.proofs.lemmas.Option.{IfSome_then}
use Rattle.dym_script.proofs.Spelled.{begins_hex}
use Rattle.dym_script.proofs.quick.operands.hex.Goals as goal

pub returns : goal.returns
returns c = IfSome_then c.at_front.result c.at_front.ensures (λ cut h. begins_hex _ _ _ _ c.in_ok-after_byte.ensures h)
