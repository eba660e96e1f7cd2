use Rattle.std.proofs.Common.{rules}
use Rattle.dym_quota.proofs.Copies.{copies-some}
use Rattle.dym_region.specs.Identity.{lone_id}
use Rattle.dym_quota.proofs.own_supply.OwnSupplySupply.give.Goals as goal

pub push_reserved-requires : goal.push_reserved-requires
push_reserved-requires c = let some = copies-some _ lone_id _ c.requires in search rules

pub invariant_of-self : goal.invariant_of-self
invariant_of-self c = let some = copies-some _ lone_id _ c.requires in search rules
