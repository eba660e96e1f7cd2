-- What is printed of an object that ran all its commands, and what it came to.
use Rattle.std.proofs.Common.{◌≡◌, ℕ, Bool, false, List, length, take, Option, None, Some, option_map, refl, sym, ap, ◌∙◌}
use Rattle.std.proofs.Math.Seq.{take-length}
use Rattle.std.specs.Prelude.{is_some, IfSome}
use Rattle.dym_base.specs.Objects.{ObjectState, run_replies, run_end, slots}
use Rattle.dym_base.specs.declared.command.Command.{Command}
use Rattle.dym_base.specs.declared.command.Version.{Version}
use Rattle.dym_commands.specs.Replies.{RepliesMeaning}
use Rattle.dym_object.specs.Meaning.{ObjectMeaning, state_of}
use Rattle.dym_report.specs.declared.late_lines.ViewLine.{ViewLine}
use Rattle.dym_view.specs.Histories.{Beginning}
use Rattle.dym_wave.specs.Publications.{IsPublished}
use Rattle.dym_wave.specs.Results.{run_shown, shown_with}
use Rattle.dym_wave.specs.States.{RanFirst, object_shown}
use Rattle.dym_wave.specs.Views.{shown_view}
use Rattle.dym_wave.proofs.Publishing.{line_of, line_shown, line_told, published_shows}

module _ (commands : List Command) (object : ObjectMeaning) (kept : RepliesMeaning) (ran : RanFirst commands object kept)
    (all : length kept.replies ≡ length commands) where
  whole : take (length kept.replies) commands ≡ commands
  whole = ap (λ n. take n commands) all ∙ take-length commands

  -- its end is that of a run of all its commands
  pub end_is : state_of object ≡ run_end object.heap.version object.heap.quota commands
  end_is = ran.state ∙ ap (run_end object.heap.version object.heap.quota) whole

  -- and so is what is printed
  pub ran_shown : (name : List ℕ) (version : Version) (line : Option (Option ViewLine)) → object.heap.version ≡ version
      → line ≡ shown_view (is_some line) (state_of object)
      → object_shown name kept.replies object line ≡ run_shown (is_some line) name version object.heap.quota commands
  ran_shown name version line same told =
      let replies = ran.replies ∙ ap (run_replies object.heap.version object.heap.quota) whole in
      let view = told ∙ ap (shown_view (is_some line)) end_is in
      λ i. (shown_with name (same i) ((replies ∙ (λ j. run_replies (same j) object.heap.quota commands)) i)
      ((ap (λ (s : ObjectState). s.heap) end_is ∙ (λ j. (run_end (same j) object.heap.quota commands).heap)) i)
      ((ap (λ (s : ObjectState). length s.logs) end_is ∙ (λ j. length (run_end (same j) object.heap.quota commands).logs)) i)
      ((ap (λ (s : ObjectState). slots s.logs) end_is ∙ (λ j. slots (run_end (same j) object.heap.quota commands).logs)) i)
      ((view ∙ (λ j. shown_view (is_some line) (run_end (same j) object.heap.quota commands))) i))

-- a history is named where views are told
pub history_told : (view : Option Beginning) → is_some (option_map (λ (b : Beginning). b.history) view) ≡ is_some view
history_told None = refl
history_told (Some b) = refl

-- what is printed of an object that ran all its commands, with the line of its last commit, is that of a run of its own commands
pub over_shown : (name : List ℕ) (commands : List Command) (object : ObjectMeaning) (kept : RepliesMeaning) (view : Option Beginning)
    (line : Option (Option ViewLine)) (short : Bool) → short ≡ false → RanFirst commands object kept → length kept.replies ≡ length commands → line ≡ line_of view
    → IfSome view (IsPublished object.heap.version object.heap.quota commands (length kept.replies) short)
    → object_shown name kept.replies object line
    ≡ run_shown (is_some (option_map (λ (b : Beginning). b.history) view)) name object.heap.version object.heap.quota commands
over_shown name commands object kept view line short long ran all is published =
    let shows = published_shows object.heap.version object.heap.quota commands (length kept.replies) (state_of object) short view long ran.state published in
    ran_shown commands object kept ran all name object.heap.version line refl (line_shown view line (state_of object) is shows)
    ∙ ap (λ b. run_shown b name object.heap.version object.heap.quota commands) (ap is_some is ∙ line_told view ∙ sym (history_told view))
