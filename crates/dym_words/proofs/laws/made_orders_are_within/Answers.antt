use Rattle.dym_words.proofs.Within.{orders_are_within}
use Rattle.dym_words.proofs.laws.made_orders_are_within.Goals as goal

pub returns : goal.returns
returns _ = orders_are_within
