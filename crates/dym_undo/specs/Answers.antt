-- What the answers of an undo log's calls are as replies.
use Rattle.std.specs.Prelude.{◌≡◌, ℕ, ◌==◌, nat_le, if◌then◌else◌, List, length, Option, None, Some, Result, Ok, Err}
use Rattle.dym_base.specs.Objects.{LogEntry, newest}
use Rattle.dym_base.specs.declared.limits.TheConstants.{MOST_KEPT_LOGS}
use Rattle.dym_base.specs.declared.command.Kind.{Kind}
use Rattle.dym_base.specs.declared.reply.Reply.{Reply}
use Rattle.dym_base.specs.declared.reply.Reply.TheVariants as reply
use Rattle.dym_base.specs.declared.reply.Refusal.{Refusal}
use Rattle.dym_base.specs.declared.reply.Refusal.TheVariants.{NotAfter, LogsFull}
use Rattle.dym_undo.specs.declared.log_error.LogError.{LogError}
use Rattle.dym_undo.specs.declared.log_error.LogError.TheVariants.{Refused, Memory}

-- the reply says that a log of this kind was taken
abbrev pub IsLoggedAs : Kind → Reply → Type 0
IsLoggedAs kind r = (n : ℕ) × (r ≡ reply.Logged kind n)

-- the answer of a log: the reply's kind, or its refusal; memory can be wanting only where nothing is refused
abbrev pub IsLogAnswer : Result Kind LogError → Reply → Type 0
IsLogAnswer (Ok kind) r = IsLoggedAs kind r
IsLogAnswer (Err (Refused why)) r = r ≡ reply.Refused why
IsLogAnswer (Err Memory) r = (kind : Kind) × IsLoggedAs kind r

-- the answer of a restore as a reply
abbrev pub restored_reply : Result ℕ Refusal → Reply
restored_reply (Ok time) = reply.At time
restored_reply (Err why) = reply.Refused why

-- why no log is taken at t
abbrev pub refusal_if_full : List LogEntry → Option Refusal
refusal_if_full logs = if length logs == MOST_KEPT_LOGS then Some LogsFull else None

abbrev pub refusal_after : ℕ → List LogEntry → Option LogEntry → Option Refusal
refusal_after t logs None = refusal_if_full logs
refusal_after t logs (Some e) = if nat_le t e.time then Some (NotAfter e.time) else refusal_if_full logs

abbrev pub log_refusal : ℕ → List LogEntry → Option Refusal
log_refusal t logs = refusal_after t logs (newest logs)
