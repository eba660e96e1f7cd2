use Rattle.std.proofs.Common.{sym, ◌∙◌}
use Rattle.dym_pack.specs.Areas.{bytes_at}
use Rattle.dym_heap.proofs.Fetches as fetches
use Rattle.dym_heap.proofs.RecordLoads as loads
use Rattle.dym_heap.proofs.record_fetch.fetch_area_of.Goals as goal

pub returns-then-is_empty-clause-fetched : goal.returns-then-is_empty-clause-fetched
returns-then-is_empty-clause-fetched g c = λ log is e.
    let none = fetches.empty_is c.body-body.result.now c.is_empty.result c.is_empty.ensures c.if-is_empty.true in
    fetches.idle_fetched log is c.args.k c.args.shelf.now.state (sym (c.body-body.ensures log is e) ∙ none)

pub fetch_area-requires : goal.fetch_area-requires
fetch_area-requires g c =
    let has = c.requires.recorded in
    (bytes_at has.0.copy c.args.k, (loads.body_k has.1 c.args.k (c.requires.area has.0 has.1 has.2) c.packed_bits.result (c.requires.version has.0 has.1 has.2) (c.area_class.ensures has.0 has.1 has.2) (c.packed_bits.ensures has.0 has.1 has.2) (c.body-body.ensures has.0 has.1 has.2)))

pub returns-clause-fetched : goal.returns-clause-fetched
returns-clause-fetched g c = λ log is e.
    fetches.area_fetched is c.args.k (c.area_class.ensures log is e) (c.area_ordinal.ensures log is e) c.packed_bits.result (c.packed_bits.ensures log is e)
    (c.fetch_area.ensures.fetched (bytes_at log.copy c.args.k) (loads.body_k is c.args.k (c.requires.area log is e) c.packed_bits.result (c.requires.version log is e) (c.area_class.ensures log is e) (c.packed_bits.ensures log is e) (c.body-body.ensures log is e)))
