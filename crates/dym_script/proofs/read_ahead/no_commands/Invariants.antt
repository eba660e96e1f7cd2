use Rattle.std.proofs.Common.{◌≡◌, ◌≤◌, [], All, length}
use Rattle.std.specs.Vec.{vec_capacity}
use Rattle.dym_script.proofs.read_ahead.no_commands.Given as goal

abbrev pub invariant-loop : goal.invariant-loop
invariant-loop l = record {
  len : length l.own.items ≡ l.counter;
  room : l.objects ≤ vec_capacity l.own;
  none : All (λ commands. commands ≡ []) l.own.items;
}
