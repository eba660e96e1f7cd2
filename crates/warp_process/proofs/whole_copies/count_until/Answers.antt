use Rattle.std.proofs.Common.{rules, ℕ, nat_le}
use Rattle.std.proofs.lemmas.List.Sorted.{IsPartitionPoint-from_clause}
use Rattle.warp_process.proofs.Dates.{dates_partitioned, until_taken, later_from}
use Rattle.warp_process.proofs.whole_copies.count_until.Goals as goal

pub returns-clause-until : goal.returns-clause-until
returns-clause-until g c =
    let copies = c.args.copies.now in
    let point = IsPartitionPoint-from_clause (λ (x : ℕ × g.row.S.Denot). nat_le x.0 c.args.date) copies c.partition_point.result c.partition_point.ensures.partitioned (dates_partitioned c.args.date copies c.requires) (λ a r f' k. search rules) in
    until_taken c.args.date copies c.partition_point.result point.0 point.1

pub returns-clause-later : goal.returns-clause-later
returns-clause-later g c =
    let copies = c.args.copies.now in
    let point = IsPartitionPoint-from_clause (λ (x : ℕ × g.row.S.Denot). nat_le x.0 c.args.date) copies c.partition_point.result c.partition_point.ensures.partitioned (dates_partitioned c.args.date copies c.requires) (λ a r f' k. search rules) in
    later_from c.args.date copies c.partition_point.result point.1
