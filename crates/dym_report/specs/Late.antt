-- What the orders views and late print besides.
use Rattle.std.specs.Prelude.{ℕ, List, ◌++◌, codes, decimal, Option, None, Some}
use Rattle.std.specs.FinMap.{len}
use Rattle.dym_base.specs.Heaps.{Live, held}
use Rattle.dym_base.specs.declared.command.Version.{Version}
use Rattle.dym_report.specs.declared.late_lines.ViewLine.{ViewLine}
use Rattle.dym_report.specs.declared.late_lines.LateOut.{LateOut}
use Rattle.dym_report.specs.declared.late_lines.LateOut.TheVariants.{Reply, Early, Committed}
use Rattle.dym_report.specs.Objects.{heap_line, images_text}
use Rattle.dym_report.specs.Replies.{reply_line}

-- view TIME CHUNKS TOTAL of an object's oldest log
abbrev pub view_line : Option ViewLine → List ℕ
view_line None = codes "view none\n"
view_line (Some view) = codes "view " ++ decimal view.time ++ codes " " ++ decimal view.chunks ++ codes " " ++ decimal view.total ++ codes "\n"

-- what a line of late events gets
abbrev pub late_line : LateOut → List ℕ
late_line (Reply reply) = reply_line reply.now
late_line (Early bound) = codes "early " ++ decimal bound ++ codes "\n"
late_line Committed = codes "ok\n"

-- how many commands were run for the events
abbrev pub replayed_line : ℕ → List ℕ
replayed_line replayed = codes "replayed " ++ decimal replayed ++ codes "\n"

-- what stands behind an object's lines of late events: its counts, its live chunks, and how many commands were run
abbrev pub late_end : Version → Live → ℕ → List ℕ
late_end version live replayed = heap_line (len live) (held live) ++ images_text version live ++ replayed_line replayed
