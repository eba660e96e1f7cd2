-- Replies whose lines are written, or wait on a page.
use Rattle.std.proofs.Common.{◌≡◌, ℕ, ◌+◌, ◌<◌, IfSome, length, drop, slice_get, List, [], ◌∷◌, ◌++◌, flat_map, sym, ap, ◌∙◌, append_assoc, append-nil}
use Rattle.dym_base.specs.Objects.{ObjectState, ObjectAnswer, object_step, replies_from, object_after}
use Rattle.dym_base.specs.declared.command.Version.{Version}
use Rattle.dym_base.specs.declared.command.Command.{Command}
use Rattle.dym_base.specs.declared.reply.Reply.{Reply}
use Rattle.dym_heap.specs.Meaning.{HeapMeaning}
use Rattle.dym_object.specs.Meaning.{ObjectMeaning, state_of, step_by}
use Rattle.dym_io.specs.Sink.{Output, Appended, Stopped, Leaves}
use Rattle.dym_io.specs.Laws.{leaves_same, leaves_cut, leaves_more, leaves_nothing}
use Rattle.dym_report.specs.Replies.{reply_line}
use Rattle.dym_report.proofs.PageLines.{leaves_within}
use Rattle.dym_object.specs.Turns.{Ran}
use Rattle.dymelor_top.proofs.CommandFacts.{CommandAt, command_at, command_fact}

-- the lines of the replies to commands
abbrev pub lines_of : Version → ℕ → ObjectState → List Command → List ℕ
lines_of v quota s commands = flat_map reply_line (replies_from v quota s commands)

-- the commands that are left lead from the object now to the end of the whole run; what waits on the page and their replies are not yet written
pub record Written (start now : ObjectMeaning) (commands rest : List Command) (page : List ℕ) (old new : Output) : Type 0 where
  pub version : now.heap.version ≡ start.heap.version
  pub quota : now.heap.quota ≡ start.heap.quota
  pub leaves : Leaves old new (lines_of start.heap.version start.heap.quota (state_of start) commands)
      (page ++ lines_of start.heap.version start.heap.quota (state_of now) rest)
  pub ends : object_after start.heap.version start.heap.quota (state_of now) rest ≡ object_after start.heap.version start.heap.quota (state_of start) commands

module _ (start now : ObjectMeaning) (commands rest after : List Command) (c : Command) (page : List ℕ) (reply : Reply) (old mid new : Output)
    (w : Written start now commands rest page old mid) (cut : rest ≡ c ∷ after) (replied : reply ≡ (step_by now c).reply) where
  step : step_by now c ≡ object_step start.heap.version start.heap.quota (state_of now) c
  step = λ j. object_step (w.version j) (w.quota j) (state_of now) c

  -- what is left begins with the page and the line of this reply
  line_first : Leaves old mid (lines_of start.heap.version start.heap.quota (state_of start) commands)
      ((page ++ reply_line reply) ++ lines_of start.heap.version start.heap.quota (step_by now c).object after)
  line_first =
      let v : Version = start.heap.version in
      let q : ℕ = start.heap.quota in
      let others : List ℕ = lines_of v q (step_by now c).object after in
      let said : lines_of v q (state_of now) rest ≡ reply_line reply ++ others =
      ap (lines_of v q (state_of now)) cut ∙ (λ j. reply_line (sym step j).reply ++ lines_of v q (sym step j).object after)
      ∙ ap (λ r. reply_line r ++ others) (sym replied) in
      leaves_same old mid _ _ _ w.leaves (ap (λ l. page ++ l) said ∙ sym (append_assoc page (reply_line reply) others))

  -- the line was added to the page
  pub written_more : (next : ObjectMeaning) (left : List ℕ) → state_of next ≡ (step_by now c).object → next.heap.version ≡ now.heap.version
      → next.heap.quota ≡ now.heap.quota
      → Leaves mid new (page ++ reply_line reply) left → Written start next commands after left old new
  written_more next left state version quota added =
      let v : Version = start.heap.version in
      let q : ℕ = start.heap.quota in
      let ran : state_of next ≡ (object_step v q (state_of now) c).object = state ∙ ap (λ (a : ObjectAnswer). a.object) step in
      record {
        version = version ∙ w.version;
        quota = quota ∙ w.quota;
        leaves = leaves_same old new _ _ _ (leaves_within old mid new _ (page ++ reply_line reply) (lines_of v q (step_by now c).object after) left line_first added)
            (λ j. left ++ lines_of v q (sym state j) after);
        ends = ap (λ s. object_after v q s after) ran ∙ ap (object_after v q (state_of now)) (sym cut) ∙ w.ends;
      }

  -- or it was cut short
  pub written_cut : Stopped mid new (page ++ reply_line reply) → Stopped old new (lines_of start.heap.version start.heap.quota (state_of start) commands)
  written_cut stopped = leaves_cut old mid new _ (page ++ reply_line reply) _ line_first stopped

-- no command is left
module _ (start now : ObjectMeaning) (commands rest : List Command) (page : List ℕ) (old mid : Output) (w : Written start now commands rest page old mid)
    (none : rest ≡ []) where
  page_left : Leaves old mid (lines_of start.heap.version start.heap.quota (state_of start) commands) page
  page_left =
      let v : Version = start.heap.version in
      let q : ℕ = start.heap.quota in
      leaves_same old mid _ _ _ w.leaves (ap (λ l. page ++ lines_of v q (state_of now) l) none ∙ append-nil page)

  pub written_all : (new : Output) → Appended mid new page → Appended old new (lines_of start.heap.version start.heap.quota (state_of start) commands)
  written_all new lines = leaves_nothing old new _ (leaves_more old mid new _ page [] (leaves_same old mid _ _ _ page_left (sym (append-nil page))) lines)

  pub written_last_cut : (new : Output) → Stopped mid new page → Stopped old new (lines_of start.heap.version start.heap.quota (state_of start) commands)
  written_last_cut new stopped = leaves_cut old mid new _ page [] (leaves_same old mid _ _ _ page_left (sym (append-nil page))) stopped

  pub ended : state_of now ≡ object_after start.heap.version start.heap.quota (state_of start) commands
  ended = ap (object_after start.heap.version start.heap.quota (state_of now)) (sym none) ∙ w.ends

-- one command more was run
module _ (commands : List Command) (i : ℕ) (start now next : ObjectMeaning) (page : List ℕ) (reply : Reply) (old mid new : Output) (within : i < length commands)
    (w : Written start now commands (drop i commands) page old mid) (ran : IfSome (slice_get commands i) (λ c. Ran now c next reply)) where
  at : CommandAt commands i
  at = command_at commands i within

  did : Ran now at.one next reply
  did = command_fact (λ c. Ran now c next reply) (slice_get commands i) at.one at.is ran

  pub ran_more : (left : List ℕ) → Leaves mid new (page ++ reply_line reply) left → Written start next commands (drop (i + 1) commands) left old new
  ran_more left added =
      written_more start now commands _ _ at.one page reply old mid new w at.cut did.reply next left did.step.object
      (ap (λ (h : HeapMeaning). h.version) did.step.heap) (ap (λ (h : HeapMeaning). h.quota) did.step.heap) added

  pub ran_cut : Stopped mid new (page ++ reply_line reply) → Stopped old new (lines_of start.heap.version start.heap.quota (state_of start) commands)
  ran_cut stopped = written_cut start now commands _ _ at.one page reply old mid new w at.cut did.reply stopped
