use Rattle.std.proofs.Common.{◌≡◌, take, sum}
use Rattle.dym_quota.proofs.queue_setup.sum_of.Given as goal

abbrev pub invariant-loop-quota : goal.invariant-loop-quota
invariant-loop-quota l = l.total ≡ sum (take l.quota-index l.quotas)
