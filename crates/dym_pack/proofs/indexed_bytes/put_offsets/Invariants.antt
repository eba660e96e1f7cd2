use Rattle.std.proofs.Common.{◌≡◌, take}
use Rattle.dym_pack.specs.Layouts.{laid}
use Rattle.dym_pack.proofs.indexed_bytes.put_offsets.Given as goal

abbrev pub invariant-loop-k : goal.invariant-loop-k
invariant-loop-k l = l.out.items ≡ laid l.initial.out.items (take l.k l.offsets)
