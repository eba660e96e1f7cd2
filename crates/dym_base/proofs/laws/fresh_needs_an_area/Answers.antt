use Rattle.dym_base.proofs.Classwise.{held_with_fresh_inside, held_with_fresh_next}
use Rattle.dym_base.proofs.laws.fresh_needs_an_area.Goals as goal

pub returns : goal.returns
returns c live e low high small = (held_with_fresh_inside live e low high small, held_with_fresh_next live e low high small)
