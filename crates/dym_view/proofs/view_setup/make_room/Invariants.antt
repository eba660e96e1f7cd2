use Rattle.std.proofs.Common.{◌≡◌, drop}
use Rattle.dym_view.specs.Rules.{AreThis}
use Rattle.dym_view.proofs.view_setup.make_room.Given as goal

abbrev pub invariant-loop : goal.invariant-loop
invariant-loop l = record {
  desk : l.view_writer.desk ≡ l.fn.view_writer.desk;
  waiting : AreThis l.known (drop l.view_writer.behind l.view_writer.log.items);
}
