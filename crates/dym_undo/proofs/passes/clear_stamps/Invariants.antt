use Rattle.std.proofs.Common.{◌≡◌, ◌/◌, drop, length}
use Rattle.dym_undo.specs.Passes.{cleared, AreHeadKeys}
use Rattle.dym_undo.proofs.passes.clear_stamps.Given as goal

abbrev pub invariant-loop-head : goal.invariant-loop-head
invariant-loop-head l = record {
  keys : AreHeadKeys (length l.initial.words / 64) (drop l.head-index l.heads);
  words : cleared (drop l.head-index l.heads) l.words ≡ cleared l.heads l.initial.words;
}
