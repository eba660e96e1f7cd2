-- A restore brings back what was logged, whatever C calls between. It is the contract of a function of src/laws.rt.
use Rattle.std.specs.Prelude.{◌≡◌, ℕ, List, [], ◌∷◌}
use Rattle.std.specs.List.{AllByRecursion}
use Rattle.dym_base.specs.RestoreLaws.{IsLogged, StaysFrom}
use Rattle.dym_base.specs.declared.command.Command.{Command}
use Rattle.dym_base.specs.declared.command.Command.TheVariants.{Restore}
use Rattle.dym_base.specs.declared.command.Kind.{Kind}
use Rattle.dym_base.specs.declared.reply.Reply.TheVariants as reply
use Rattle.dym_undo_object.specs.Commands.{log_command}
use Rattle.dym_undo_object.specs.Meaning.{UndoObjectMeaning, IsWhole, step_by}
use Rattle.dym_c.specs.Calls.{HasRun}

-- one object became another by calls that ran these commands, one after the other, and by calls that left it as it was
abbrev pub HaveRun : UndoObjectMeaning → List Command → UndoObjectMeaning → Type 0
HaveRun old [] new = new ≡ old
HaveRun old (command ∷ commands) new = (next : UndoObjectMeaning) × HasRun old next command × HaveRun next commands new

-- an object is logged at t, and then calls run any commands, of which none restores to a time before t: where a restore to t finds the
-- log of t, what is live is what was live when it was logged
abbrev pub ExportsBringBack : Type 0
ExportsBringBack =
    (old logged later restored : UndoObjectMeaning) (t : ℕ) (kind : Kind) (commands : List Command) → IsWhole old
    → HasRun old logged (log_command kind t) → IsLogged (step_by old (log_command kind t)).reply
    → HaveRun logged commands later → AllByRecursion (StaysFrom t) commands
    → HasRun later restored (Restore t) → (step_by later (Restore t)).reply ≡ reply.At t
    → restored.heap.state.live ≡ old.heap.state.live
