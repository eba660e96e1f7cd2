use Rattle.std.proofs.Common.{sym, ◌∙◌}
use Rattle.dym_heap.proofs.Fetches as fetches
use Rattle.dym_heap.proofs.record_fetch.mark_area_of.Goals as goal

pub returns-then-is_empty-clause-marked : goal.returns-then-is_empty-clause-marked
returns-then-is_empty-clause-marked g c = λ log is e.
    let none = fetches.empty_is c.body.result.now c.is_empty.result c.is_empty.ensures c.if-is_empty.true in
    fetches.idle_marked log is c.args.k c.args.shelf.now.state (sym (c.body.ensures log is e) ∙ none)

pub returns-clause-marked : goal.returns-clause-marked
returns-clause-marked g c = λ log is e.
    fetches.area_marked is c.args.k (c.area_class.ensures log is e) (c.area_ordinal.ensures log is e) c.packed_bits.result (c.packed_bits.ensures log is e)
    c.mark_area.ensures.marked
