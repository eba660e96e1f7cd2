use Rattle.std.proofs.Common.{◌≡◌, drop}
use Rattle.dym_view.proofs.publication.append_at_last.Given as goal

abbrev pub invariant-loop : goal.invariant-loop
invariant-loop g l =
    (l.left ≡ l.fn.known) × (l.view_writer.desk ≡ l.fn.view_writer.desk)
    × (drop l.view_writer.behind l.view_writer.log.items ≡ drop l.fn.view_writer.behind l.fn.view_writer.log.items)
    × (goal.iterator-loop g).can_next l.iterator' × (goal.iterator-loop g).is_finite l.iterator'
