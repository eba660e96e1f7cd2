-- What is left of objects that have run: what is printed of them, and what they come to.
use Rattle.std.specs.Prelude.{◌≡◌, Bool, ℕ, ◌+◌, ◌^◌, ◌≤◌, List, ◌++◌, length, map, flat_map, is_some, Option}
use Rattle.dym_base.specs.Heaps.{HeapState}
use Rattle.dym_base.specs.Objects.{run_replies, run_end, slots}
use Rattle.dym_base.specs.declared.command.Version.{Version}
use Rattle.dym_base.specs.declared.command.Command.{Command}
use Rattle.dym_base.specs.declared.reply.Reply.{Reply}
use Rattle.dym_report.specs.Objects.{object_text}
use Rattle.dym_script.specs.OwnCommands.{Own, own_of}
use Rattle.dym_report.specs.Summary.{tally_with}
use Rattle.dym_report.specs.declared.late_lines.ViewLine.{ViewLine}
use Rattle.dym_report.specs.declared.tally.Tally.{Tally}
use Rattle.dym_script.specs.declared.parts.Part.{Part}
use Rattle.dym_wave.specs.declared.report_options.ReportOptions.{ReportOptions}
use Rattle.dym_wave.specs.Views.{shown_view, view_line_text, part_with_view}
use Rattle.dym_wave.specs.Works.{OriginMeaning}

-- what is printed of an object: its name, its version, its replies, its heap, how many logs it keeps, how many records these take, and
-- its view where views are told
pub record Shown : Type 0 where
  pub name : List ℕ
  pub version : Version
  pub replies : List Reply
  pub heap : HeapState
  pub kept : ℕ
  pub slots : ℕ
  pub view : Option (Option ViewLine)

-- what is printed of an object of this name and version with these replies, this heap, so many logs in so many records, and this view
abbrev pub shown_with : List ℕ → Version → List Reply → HeapState → ℕ → ℕ → Option (Option ViewLine) → Shown
shown_with name version replies heap kept slots view =
    record { name = name; version = version; replies = replies; heap = heap; kept = kept; slots = slots; view = view }

-- what is printed of an object of this name, quota and version that ran these commands, with its view in the end where views are told
abbrev pub run_shown : Bool → List ℕ → Version → ℕ → List Command → Shown
run_shown views name version quota commands =
    let s = run_end version quota commands in
    shown_with name version (run_replies version quota commands) s.heap (length s.logs) (slots s.logs) (shown_view views s)

-- the same of a work that ran all its commands, by where it came from
abbrev pub origin_shown : OriginMeaning → Shown
origin_shown o = run_shown (is_some o.history) o.name o.object.version o.object.quota o.commands

-- the same of a declared object and its own commands, and of parts
abbrev pub own_shown : ReportOptions → Own → Shown
own_shown t o = run_shown t.views o.decl.name t.version o.decl.quota o.commands

abbrev pub parts_shown : ReportOptions → List Part → List Shown
parts_shown options parts = map (λ p. own_shown options (own_of p)) parts

-- its text
abbrev pub shown_text : Shown → List ℕ
shown_text s = object_text s.version s.name s.replies s.heap.live s.kept s.slots ++ view_line_text s.view

-- the texts of parts
abbrev pub parts_text : ReportOptions → List Part → List ℕ
parts_text options parts = flat_map (λ part. part_with_view options (own_of part)) parts

-- what it comes to
abbrev pub shown_tally : Shown → Tally
shown_tally s = tally_with s.replies s.heap.live s.kept s.slots

-- this is what an object comes to, and its numbers are as small as those of an object are
pub record IsTallyOf (tally : Tally) (object : Shown) : Type 0 where
  pub counted : tally ≡ shown_tally object
  pub replies : tally.ok + tally.refused ≡ length object.replies
  pub chunks : tally.chunks ≤ 2 ^ 37
  pub segments : tally.segments ≤ 2 ^ 32
  pub kept : tally.kept ≤ 2 ^ 32
  pub slots : tally.slots ≤ 2 ^ 32
