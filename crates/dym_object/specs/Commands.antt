-- Which reply takes memory, and what a log's answer leaves.
use Rattle.std.specs.Prelude.{⊤, ℕ, Result, Err}
use Rattle.dym_base.specs.declared.command.Kind.{Kind}
use Rattle.dym_base.specs.declared.command.Kind.TheVariants.{Full, Inc}
use Rattle.dym_base.specs.declared.command.Command.{Command}
use Rattle.dym_base.specs.declared.command.Command.TheVariants.{Read, Log, Ilog}
use Rattle.dym_base.specs.declared.reply.Reply.{Reply}
use Rattle.dym_base.specs.declared.reply.Reply.TheVariants as reply
use Rattle.dym_chain.specs.declared.log_error.LogError.{LogError}
use Rattle.dym_chain.specs.declared.log_error.LogError.TheVariants.{Refused, Memory}

abbrev pub IsNotRefused : Reply → Type 0
IsNotRefused (reply.Refused why) = ⊥
IsNotRefused _ = ⊤

-- a command whose reply takes memory: a read that isn't refused for its bytes, a log that isn't refused for its record
abbrev pub TakesMemory : Command → Reply → Type 0
TakesMemory (Read h at n) reply = IsNotRefused reply
TakesMemory (Log t) reply = IsNotRefused reply
TakesMemory (Ilog t) reply = IsNotRefused reply
TakesMemory _ reply = ⊥

-- the command that takes a log of this kind
abbrev pub log_command : Kind → ℕ → Command
log_command Full t = Log t
log_command Inc t = Ilog t

-- facts that hold where a log was taken or refused; where it was refused; where memory was wanting
abbrev pub OnReplied : Result (Kind × ℕ) LogError → Type 0 → Type 0
OnReplied (Err Memory) P = ⊤
OnReplied _ P = P

abbrev pub OnRefused : Result (Kind × ℕ) LogError → Type 0 → Type 0
OnRefused (Err (Refused why)) P = P
OnRefused _ P = ⊤

abbrev pub OnMemory : Result (Kind × ℕ) LogError → Type 0 → Type 0
OnMemory (Err Memory) P = P
OnMemory _ P = ⊤

-- the answer of the count of the logs as a reply
abbrev pub slots_reply : ℕ × ℕ → Reply
slots_reply answer = reply.Slots answer.0 answer.1
