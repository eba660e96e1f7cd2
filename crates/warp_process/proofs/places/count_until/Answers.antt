use Rattle.std.proofs.Common.{rules, nat_le}
use Rattle.std.proofs.lemmas.List.Sorted.{IsPartitionPoint-from_clause}
use Rattle.warp_base.specs.declared.event.Event.{Event}
use Rattle.warp_process.proofs.InOrder.{times_partitioned, times_until, times_behind}
use Rattle.warp_process.proofs.places.count_until.Goals as goal

pub returns-clause-before : goal.returns-clause-before
returns-clause-before g c =
    let events = c.args.events.now in
    let point = IsPartitionPoint-from_clause (λ (x : Event g.row.P.Denot). nat_le x.time c.args.last) events c.partition_point.result c.partition_point.ensures.partitioned (times_partitioned g.P.Payload.words c.args.last events c.requires) (λ a r f' k. search rules) in
    times_until c.args.last events c.partition_point.result point.0

pub returns-clause-behind : goal.returns-clause-behind
returns-clause-behind g c =
    let events = c.args.events.now in
    let point = IsPartitionPoint-from_clause (λ (x : Event g.row.P.Denot). nat_le x.time c.args.last) events c.partition_point.result c.partition_point.ensures.partitioned (times_partitioned g.P.Payload.words c.args.last events c.requires) (λ a r f' k. search rules) in
    times_behind c.args.last events c.partition_point.result point.1
