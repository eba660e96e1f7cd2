-- The line of a view: what is shown of an object's oldest kept log.
use Rattle.std.specs.Prelude.{Option, option_map}
use Rattle.std.specs.FinMap.{len}
use Rattle.dym_base.specs.Objects.{LogEntry, ObjectState}
use Rattle.dym_report.specs.declared.late_lines.ViewLine.{ViewLine}
use Rattle.dym_view.specs.Commits.{CommitMeaning, oldest, total_of}
use Rattle.dym_view.specs.declared.glance.Glance.{Glance}

-- the time of a log, how many chunks its copy has, and the sum of their bytes
abbrev pub view_of : LogEntry → ViewLine
view_of e = record { time = e.time; chunks = len e.copy; total = total_of e.copy }

-- what is shown of an object: its oldest kept log, and nothing where it keeps none
abbrev pub oldest_view : ObjectState → Option ViewLine
oldest_view s = option_map view_of (oldest s.logs)

-- what is shown of a commit
abbrev pub commit_view : CommitMeaning → ViewLine
commit_view c = record { time = c.time; chunks = len c.copy; total = total_of c.copy }

-- what is shown of a look
abbrev pub glance_view : Glance → ViewLine
glance_view g = record { time = g.time; chunks = g.chunks; total = g.total }
