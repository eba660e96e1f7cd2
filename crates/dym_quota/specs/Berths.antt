-- Berths of one queue.
use Rattle.std.specs.Prelude.{◌≡◌, []}
use Rattle.dym_base.specs.Origins.{TableName}
use Rattle.dym_quota.specs.QueueShape.{queue_name, known_by}
use Rattle.dym_quota.specs.declared.berth.Berth.{Berth}

-- a berth of the queue with this name that holds nothing
abbrev pub IsIdleBerth : {R : Type 0} → TableName → Berth R → Type 0
IsIdleBerth name b = (queue_name b.pass ≡ name) × ((known_by b.pass).held ≡ [])
