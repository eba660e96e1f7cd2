use Rattle.dym_report.proofs.PageLines.{behind_added, behind_cut, behind_stopped}
use Rattle.dym_report.proofs.page.Page.add_bytes_behind.Goals as goal

pub returns-then-not-has_bytes_room-clause-added : goal.returns-then-not-has_bytes_room-clause-added
returns-then-not-has_bytes_room-clause-added g c = behind_added _ _ _ _ _ _ _ c.in_ok-write.ensures.written c.in_ok-write.ensures.empty c.write_hex_line.ensures

pub returns-then-not-has_bytes_room-clause-stopped : goal.returns-then-not-has_bytes_room-clause-stopped
returns-then-not-has_bytes_room-clause-stopped g c = behind_stopped _ _ _ _ _ _ c.in_ok-write.ensures.written c.write_hex_line.ensures

pub returns-in_err-write-clause-stopped : goal.returns-in_err-write-clause-stopped
returns-in_err-write-clause-stopped g c = behind_cut _ _ _ _ _ c.from_residual.ensures.0 c.in_err-write.ensures.written
