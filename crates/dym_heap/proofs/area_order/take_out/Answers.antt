use Rattle.dym_heap.proofs.Turned.{taken_out}
use Rattle.dym_heap.proofs.area_order.take_out.Goals as goal

pub returns-clause-value : goal.returns-clause-value
returns-clause-value g c = (taken_out c.args.sized_areas.now.items _ _ c.take_last.result c.args.at c.requires c.move_to_end.ensures.items c.take_last.ensures.items).value

pub returns-clause-items : goal.returns-clause-items
returns-clause-items g c = (taken_out c.args.sized_areas.now.items _ _ c.take_last.result c.args.at c.requires c.move_to_end.ensures.items c.take_last.ensures.items).items
