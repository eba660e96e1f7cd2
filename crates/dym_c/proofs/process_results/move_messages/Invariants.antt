use Rattle.std.proofs.Common.{◌≡◌, length, take, drop, map}
use Rattle.dym_c.specs.Events.{c_message}
use Rattle.dym_c.proofs.process_results.move_messages.Given as goal

abbrev pub invariant-loop-place : goal.invariant-loop-place
invariant-loop-place l = (take l.place l.messages ≡ map c_message (take l.place l.out.items)) × (drop l.place l.messages ≡ drop l.place l.fn.messages)
    × (length l.messages ≡ length l.fn.messages)
