-- The report of a script and its summary: what its objects' own commands print, and what they come to.
use Rattle.std.specs.Prelude.{ℕ, List, [], ◌∷◌, ◌++◌, length, flat_map}
use Rattle.dym_base.specs.Objects.{slots}
use Rattle.dym_base.specs.declared.command.Version.{Version}
use Rattle.dym_script.specs.Scripts.{ScriptMeaning}
use Rattle.dym_script.specs.OwnCommands.{Own, objects_of, replies_of, end_of}
use Rattle.dym_report.specs.declared.totals.Totals.{Totals}
use Rattle.dym_report.specs.declared.tally.Tally.{Tally}
use Rattle.dym_report.specs.Objects.{object_text}
use Rattle.dym_report.specs.Orders.{end_text, summary_text}
use Rattle.dym_report.specs.Summary.{tally_with, no_tally, both_tallies}

-- the part of one object
unfoldable pub part_text : Version → Own → List ℕ
part_text version o =
    let s = end_of version o in
    object_text version o.decl.name (replies_of version o) s.heap.live (length s.logs) (slots s.logs)

-- the parts of all objects, and the last line
unfoldable pub report_text : ScriptMeaning → List ℕ
report_text said = flat_map (part_text said.version) (objects_of said) ++ end_text

-- what a declared object comes to by its own commands
unfoldable pub tally_of : Version → Own → Tally
tally_of version o =
    let s = end_of version o in
    tally_with (replies_of version o) s.heap.live (length s.logs) (slots s.logs)

-- what objects come to together
abbrev pub tally_all : Version → List Own → Tally
tally_all version [] = no_tally
tally_all version (o ∷ os) = both_tallies (tally_of version o) (tally_all version os)

-- the eight numbers of a summary
abbrev pub totals_of : ScriptMeaning → Totals
totals_of said =
    let all = tally_all said.version (objects_of said) in
    record {
      objects = length said.objects;
      commands = length said.lines;
      ok = all.ok;
      refused = all.refused;
      chunks = all.chunks;
      segments = all.segments;
      kept = all.kept;
      slots = all.slots;
    }

-- the line of a summary
abbrev pub summary_of : ScriptMeaning → List ℕ
summary_of said = summary_text (totals_of said)
