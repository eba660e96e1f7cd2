-- No step takes a heap above its quota.
use Rattle.std.proofs.Common.{ℕ, ◌≤◌, [], arith}
use Rattle.std.specs.FinMap.{insert}
use Rattle.dym_base.specs.Numbers.{number}
use Rattle.dym_base.specs.Heaps.{HeapState, fresh, held}
use Rattle.dym_base.specs.HeapStep.{key, heap_step}
use Rattle.dym_base.specs.declared.command.Version.{Version}
use Rattle.dym_base.specs.declared.command.Command.{Command}
use Rattle.dym_base.proofs.Maps.{has_some}
use Rattle.dym_base.proofs.Heaps.{held_insert_any, held_insert_live, held_remove}
use Rattle.dym_base.proofs.Steps.{heap_step_by}

pub step_within : (v : Version) (quota : ℕ) (s : HeapState) (c : Command) → held s.live ≤ quota → held (heap_step v quota s c).heap.live ≤ quota
step_within v quota s c within =
    heap_step_by v quota s c (λ answer. held answer.heap.live ≤ quota)
    (λ r. within)
    (λ k r has. (let fewer = held_remove s.live k in omega arith))
    (λ h old bytes r is new. (let alike = held_insert_live s.live (key h) bytes (has_some s.live (key h) old is) in omega arith))
    (λ e n bytes r class len fits. (let alike = held_insert_any s.live (number e (fresh s.live e)) bytes [] in omega arith))
    (λ h e n bytes r has class len fits. (
    let alike = held_insert_any s.live (number e (fresh s.live e)) bytes [] in
    let fewer = held_remove (insert s.live (number e (fresh s.live e)) bytes) (key h) in
    omega arith))
