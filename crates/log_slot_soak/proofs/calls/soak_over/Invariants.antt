use Rattle.std.proofs.Common.{◌≡◌, None}
use Rattle.log_slot_soak.proofs.calls.soak_over.Given as goal

abbrev pub invariant-loop-call : goal.invariant-loop-call
invariant-loop-call l = l.owner.lifted ≡ None
