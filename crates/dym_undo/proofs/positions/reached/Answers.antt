use Rattle.std.proofs.Common.{rules, nat_le}
use Rattle.dym_undo.specs.declared.entry.Entry.{Entry}
use Rattle.std.proofs.lemmas.List.Sorted.{IsPartitionPoint-from_clause}
use Rattle.dym_undo.proofs.Places.{partitioned_by, reached_from}
use Rattle.dym_undo.proofs.positions.reached.Goals as goal

pub returns-clause-reached : goal.returns-clause-reached
returns-clause-reached c logs are each =
    reached_from c.args.time logs c.args.entries.now c.partition_point.result are each c.partition_point.ensures.bound
    (IsPartitionPoint-from_clause (λ (y : Entry). nat_le y.time c.args.time) c.args.entries.now c.partition_point.result c.partition_point.ensures.partitioned (partitioned_by c.args.time logs c.args.entries.now are each) (λ a r f' k. search rules))
