-- What a call from C that asks for a command does: the status, the reply and the object after it. A command that can't be asked,
-- since an argument is bad, is None.
use Rattle.std.specs.Prelude.{◌≡◌, ℕ, Bool, nat_lt, ◌==◌, if◌then◌else◌, Option, None, Some}
use Rattle.std.specs.Bool.{MatchBool}
use Rattle.dym_base.specs.declared.command.Command.{Command}
use Rattle.dym_base.specs.declared.reply.Reply.{Reply}
use Rattle.dym_base.specs.declared.limits.TheConstants.{COUNT_LIMIT}
use Rattle.dym_heap.specs.Replies.{OnRefusal}
use Rattle.dym_base.specs.declared.command.Kind.{Kind}
use Rattle.dym_undo.specs.Answers.{IsLoggedAs}
use Rattle.dym_undo_object.specs.Meaning.{UndoObjectMeaning, IsStep, counted, step_by}
use Rattle.dym_c.specs.Statuses.{reply_status}

-- the object may run a command more
abbrev pub has_left : UndoObjectMeaning → Bool
has_left o = nat_lt o.ran COUNT_LIMIT

-- the status where no command can be run: 11 for a closed object, 10 for one that ran as many as it may
abbrev pub status_unready : Option UndoObjectMeaning → Option ℕ
status_unready None = Some 11
status_unready (Some o) = if has_left o then None else Some 10

-- 9 where the command can't be asked, whatever the object is
abbrev pub status_of : Option UndoObjectMeaning → Option Command → ℕ
status_of (Some o) (Some command) = if has_left o then reply_status (step_by o command).reply else 10
status_of None (Some command) = 11
status_of _ None = 9

-- the reply of a command that was run
abbrev pub reply_of : Option UndoObjectMeaning → Option Command → Option Reply
reply_of (Some o) (Some command) = if has_left o then Some (step_by o command).reply else None
reply_of _ _ = None

-- the object ran the command; a refused one changed nothing but the count
pub record HasRun (old new : UndoObjectMeaning) (command : Command) : Type 0 where
  pub step : IsStep old new command
  pub refused : OnRefusal (step_by old command).reply (new ≡ counted old)

-- the object after the call
abbrev pub IsAfter : Option UndoObjectMeaning → Option Command → Option UndoObjectMeaning → Type 0
IsAfter (Some o) (Some command) (Some new) = MatchBool (has_left o) (HasRun o new command) (new ≡ o)
IsAfter (Some o) (Some command) None = ⊥
IsAfter old _ new = new ≡ old

-- a command that is none of the definition's was counted, and has done nothing else: it answers a status, where one could be run
abbrev pub IsCounted : Option UndoObjectMeaning → ℕ → ℕ → Option UndoObjectMeaning → Type 0
IsCounted None want status new = (status ≡ 11) × (new ≡ None)
IsCounted (Some o) want status new = MatchBool (has_left o) ((status ≡ want) × (new ≡ Some (counted o))) ((status ≡ 10) × (new ≡ Some o))

-- a call that takes memory: what holds where memory was wanting, and what holds else
abbrev pub Wanting : ℕ → Type 0 → Type 0 → Type 0
Wanting status = MatchBool (status == 8)

-- the reply says that a log was taken: only then is memory asked for
abbrev pub IsTaken : Option Reply → Type 0
IsTaken (Some reply) = (kind : Kind) × IsLoggedAs kind reply
IsTaken None = ⊥
