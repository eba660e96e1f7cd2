-- A restore brings back what was logged, whatever came between. It is the contract of a function of src/laws.rt.
use Rattle.std.specs.Prelude.{◌≡◌, ℕ, ◌≤◌, ⊤, List}
use Rattle.std.specs.List.{AllByRecursion}
use Rattle.dym_base.specs.Objects.{ObjectState, log, restore, object_after}
use Rattle.dym_base.specs.RunLaws.{IsLogList}
use Rattle.dym_base.specs.declared.command.Version.{Version}
use Rattle.dym_base.specs.declared.command.Kind.{Kind}
use Rattle.dym_base.specs.declared.command.Command.{Command}
use Rattle.dym_base.specs.declared.command.Command.TheVariants.{Restore}
use Rattle.dym_base.specs.declared.reply.Reply.{Reply}
use Rattle.dym_base.specs.declared.reply.Reply.TheVariants as reply

-- the reply to a log that was made
abbrev pub IsLogged : Reply → Type 0
IsLogged (reply.Logged kind length) = ⊤
IsLogged r = ⊥

-- a command that restores to no time before t
abbrev pub StaysFrom : ℕ → Command → Type 0
StaysFrom t (Restore u) = t ≤ u
StaysFrom t c = ⊤

-- an object is logged at t, and then any commands follow, of which none restores to a time before t: where a restore to t finds
-- the log of t, what is live is what was live when it was logged
abbrev pub RestoresBringBack : Type 0
RestoresBringBack =
    (v : Version) (quota : ℕ) (s : ObjectState) (t : ℕ) (kind : Kind) (commands : List Command) → IsLogList s.logs
    → IsLogged (log v s t kind).reply → AllByRecursion (StaysFrom t) commands
    → (restore (object_after v quota (log v s t kind).object commands) t).reply ≡ reply.At t
    → (restore (object_after v quota (log v s t kind).object commands) t).object.heap.live ≡ s.heap.live
