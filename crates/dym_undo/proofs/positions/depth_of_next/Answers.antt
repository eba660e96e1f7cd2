use Rattle.std.proofs.Common.{sym, ◌∙◌}
use Rattle.dym_undo.proofs.Places.{depth_ends}
use Rattle.dym_undo.proofs.positions.depth_of_next.Goals as goal

pub returns-in_default : goal.returns-in_default
returns-in_default c log is small = depth_ends c.args.want log c.in-Inc-Some.entry (sym c.in-Inc-Some.is-1 ∙ is) c.if-entry-lt-MOST_DEPTH.false small
