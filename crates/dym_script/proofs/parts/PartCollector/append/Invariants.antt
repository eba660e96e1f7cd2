use Rattle.std.proofs.Common.{◌≡◌, ◌++◌, length}
use Rattle.dym_script.specs.ReadAheads.{HasOwn}
use Rattle.dym_script.proofs.parts.PartCollector.append.Given as goal

abbrev pub invariant-loop-commands : goal.invariant-loop-commands
invariant-loop-commands l = record {
  place : l.place ≡ length l.yielded;
  all : l.fn.own.items ≡ l.yielded ++ l.commands-iterator.rest.items;
  has : HasOwn l.yielded l.initial.self.parts.items l.self.parts.items;
}
