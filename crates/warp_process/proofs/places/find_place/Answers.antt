use Rattle.std.proofs.Common.{rules, not}
use Rattle.std.proofs.lemmas.List.Sorted.{IsPartitionPoint-from_clause}
use Rattle.warp_base.specs.declared.event.Event.{Event}
use Rattle.warp_base.specs.Events.{precedes}
use Rattle.warp_process.proofs.InOrder.{after_point, from_point, partitioned}
use Rattle.warp_process.proofs.places.find_place.Goals as goal

pub returns-clause-before : goal.returns-clause-before
returns-clause-before g c =
    let words = g.P.Payload.words in
    let e = c.args.event.now in
    let point = IsPartitionPoint-from_clause (λ (x : Event g.row.P.Denot). not (precedes words e x)) c.args.events.now c.partition_point.result c.partition_point.ensures.partitioned (partitioned words e c.args.events.now c.requires) (λ a r f' k. search rules) in
    after_point words g.met.P.Payload.tells_apart e c.args.events.now c.partition_point.result point.0

pub returns-clause-behind : goal.returns-clause-behind
returns-clause-behind g c =
    let words = g.P.Payload.words in
    let e = c.args.event.now in
    let point = IsPartitionPoint-from_clause (λ (x : Event g.row.P.Denot). not (precedes words e x)) c.args.events.now c.partition_point.result c.partition_point.ensures.partitioned (partitioned words e c.args.events.now c.requires) (λ a r f' k. search rules) in
    from_point words g.met.P.Payload.tells_apart e c.args.events.now c.partition_point.result point.1
