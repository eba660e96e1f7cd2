use Rattle.std.proofs.Common.{arith}
use Rattle.dym_script.proofs.Fronts.{front_values}
use Rattle.dym_script.proofs.quick.numerals.front.Goals as goal

pub returns : goal.returns
returns c = front_values c.args.text.now c.in_ok-word.word c.digits_at_front-count.result (λ i. omega (arith, c.type_inv.text i))
    c.in_ok-word.ensures.within c.in_ok-word.ensures.word (omega arith) (omega arith) (omega arith)
