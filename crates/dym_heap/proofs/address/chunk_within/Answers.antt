use Rattle.std.proofs.Common.{◌*◌, ◌%◌, ◌∙◌}
use denote.RawPtr.{◌+ₚ◌}
use Rattle.dym_heap.proofs.Addresses.{offset_small}
use Rattle.dym_heap.proofs.address.chunk_within.Goals as goal

pub overflow_mul-at : goal.overflow_mul-at
overflow_mul-at c = record {
  fits = offset_small c.args.class.exp c.args.index c.per_area.result c.size.result c.args.class.most
      c.per_area.ensures c.size.ensures;
}

pub returns : goal.returns
returns c =
    c.byte_add.ensures.value
    ∙ (λ j. c.args.segment +ₚ ((c.args.index % c.per_area.ensures j) * c.size.ensures j))
