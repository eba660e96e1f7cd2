use Rattle.std.proofs.Common.{◌≡◌, ◌+◌, length}
use Rattle.dym_wave.specs.States.{RanFirst}
use Rattle.dym_wave.specs.Works.{object_origin}
use Rattle.dym_wave.proofs.turns.run_some.Given as goal

abbrev pub invariant-loop : goal.invariant-loop
invariant-loop g l = record {
  ran : RanFirst l.commands l.turn.object l.replies;
  origin : object_origin l.turn.object ≡ object_origin l.initial.turn.object;
  more : length l.replies.replies ≡ length l.initial.replies.replies + l.counter;
}
