use Rattle.std.proofs.Common.{◌≡◌, ◌+◌, drop}
use Rattle.dym_undo.specs.Heads.{bytes_in}
use Rattle.dym_undo.proofs.passes.count_bytes.Given as goal

abbrev pub invariant-loop-head : goal.invariant-loop-head
invariant-loop-head l = l.count + bytes_in (drop l.head-index l.heads) ≡ bytes_in l.heads
