use Rattle.std.proofs.Common.{arith}
use Rattle.dym_heap.proofs.Offsets.{lies_computed, only_computed, none_computed}
use Rattle.dym_heap.proofs.address.chunk_around.Goals as goal

pub returns-then-rank-clause-only : goal.returns-then-rank-clause-only
returns-then-rank-clause-only c = none_computed c.args.offset c.from.ensures c.from-2.ensures (omega arith)

pub returns-clause-lies : goal.returns-clause-lies
returns-clause-lies c =
    lies_computed c.args.offset c.from.ensures c.from-2.ensures c.from-3.ensures c.from-4.ensures c.per_area.ensures c.size-size.ensures
    c.requires.least (omega arith)

pub returns-clause-only : goal.returns-clause-only
returns-clause-only c =
    only_computed c.args.offset c.from.ensures c.from-2.ensures c.from-3.ensures c.from-4.ensures c.per_area.ensures c.size-size.ensures
