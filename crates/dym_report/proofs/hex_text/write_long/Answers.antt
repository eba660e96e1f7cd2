-- The digits and the end stand behind the front.
use Rattle.std.proofs.lemmas.List.{append_assoc}
use Rattle.dym_io.specs.Laws.{writes_after, writes_cut}
use Rattle.dym_report.proofs.hex_text.write_long.Goals as goal

pub returns : goal.returns
returns g c = rw append_assoc (writes_after _ _ _ _ _ _ c.in_ok-push_all.ensures c.write_last.ensures)

pub returns-in_err-push_all : goal.returns-in_err-push_all
returns-in_err-push_all g c = rw append_assoc (writes_cut _ _ _ _ _ c.from_residual.ensures.0 c.in_err-push_all.ensures)
