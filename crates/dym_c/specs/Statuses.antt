-- The numbers that exports answer: 0 done, 1 to 7 refused, 8 memory was wanting, 9 a bad argument, 10 spent, 11 the object is closed, or open where
-- it is to be opened, 12 the bytes are no file.
use Rattle.std.specs.Prelude.{ℕ}
use Rattle.dym_base.specs.declared.reply.Refusal.{Refusal}
use Rattle.dym_base.specs.declared.reply.Refusal.TheVariants.{TooLarge, Quota, Dead, Range, NotAfter, LogsFull, NoLog}
use Rattle.dym_base.specs.declared.reply.Reply.{Reply}
use Rattle.dym_base.specs.declared.reply.Reply.TheVariants.{Refused}

abbrev pub refusal_status : Refusal → ℕ
refusal_status TooLarge = 1
refusal_status Quota = 2
refusal_status Dead = 3
refusal_status Range = 4
refusal_status (NotAfter newest) = 5
refusal_status LogsFull = 6
refusal_status NoLog = 7

-- the status of a command that was run
abbrev pub reply_status : Reply → ℕ
reply_status (Refused why) = refusal_status why
reply_status _ = 0
