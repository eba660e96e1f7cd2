-- The views of a script's objects: behind the part of each stands what its oldest kept log tells.
use Rattle.std.specs.Prelude.{ℕ, Bool, true, false, List, [], ◌++◌, flat_map, Option, None, Some}
use Rattle.dym_base.specs.Objects.{ObjectState}
use Rattle.dym_base.specs.declared.command.Version.{Version}
use Rattle.dym_script.specs.Scripts.{ScriptMeaning}
use Rattle.dym_report.specs.Late.{view_line}
use Rattle.dym_report.specs.Orders.{end_text}
use Rattle.dym_report.specs.declared.late_lines.ViewLine.{ViewLine}
use Rattle.dym_wave.specs.Lines.{oldest_view}
use Rattle.dym_wave.specs.declared.report_options.ReportOptions.{ReportOptions}
use Rattle.dym_script.specs.OwnCommands.{Own, objects_of, end_of}
use Rattle.dym_wave.specs.Reports.{part_text}

-- what is told of the view of an object: nothing where views aren't told
abbrev pub shown_view : Bool → ObjectState → Option (Option ViewLine)
shown_view true s = Some (oldest_view s)
shown_view false s = None

-- its line, where it is told
abbrev pub view_line_text : Option (Option ViewLine) → List ℕ
view_line_text None = []
view_line_text (Some view) = view_line view

-- the part of a declared object, and the line of its view where views are told
abbrev pub part_with_view : ReportOptions → Own → List ℕ
part_with_view t o = part_text t.version o ++ view_line_text (shown_view t.views (end_of t.version o))

-- the part of a declared object, and the line of its view
abbrev pub viewed_part : Version → Own → List ℕ
viewed_part version o = part_text version o ++ view_line (oldest_view (end_of version o))

-- the report of a script with the line of each object's view, and the last line
unfoldable pub views_text : ScriptMeaning → List ℕ
views_text said = flat_map (viewed_part said.version) (objects_of said) ++ end_text
