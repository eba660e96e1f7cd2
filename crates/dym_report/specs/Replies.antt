-- Replies as text.
use Rattle.std.specs.Prelude.{ℕ, ◌+◌, ◌*◌, List, ◌++◌, length, codes, decimal}
use Rattle.dym_base.specs.declared.command.Kind.{Kind}
use Rattle.dym_base.specs.declared.command.Kind.TheVariants.{Full, Inc}
use Rattle.dym_base.specs.declared.reply.Refusal.{Refusal}
use Rattle.dym_base.specs.declared.reply.Refusal.TheVariants.{TooLarge, Quota, Dead, Range, NotAfter, LogsFull, NoLog}
use Rattle.dym_base.specs.declared.reply.Reply.{Reply}
use Rattle.dym_base.specs.declared.reply.Reply.TheVariants.{Done, Chunk, Nil, Loose, Bytes, Total, Logged, At, Dropped, Slots, Refused}
use Rattle.dym_report.specs.Handles.{handle_text}
use Rattle.dym_report.specs.Hex.{hex_text}

abbrev pub kind_text : Kind → List ℕ
kind_text Full = codes "full"
kind_text Inc = codes "inc"

abbrev pub refusal_text : Refusal → List ℕ
refusal_text TooLarge = codes "toolarge"
refusal_text Quota = codes "quota"
refusal_text Dead = codes "dead"
refusal_text Range = codes "range"
refusal_text (NotAfter newest) = codes "notafter " ++ decimal newest
refusal_text LogsFull = codes "logsfull"
refusal_text NoLog = codes "nolog"

abbrev pub reply_text : Reply → List ℕ
reply_text Done = codes "ok"
reply_text (Chunk h) = codes "ok " ++ handle_text h
reply_text Nil = codes "ok nil"
reply_text (Loose n) = codes "loose " ++ decimal n
reply_text (Bytes bytes) = codes "ok " ++ hex_text bytes
reply_text (Total n) = codes "ok " ++ decimal n
reply_text (Logged kind len) = codes "ok " ++ kind_text kind ++ codes " " ++ decimal len
reply_text (At time) = codes "ok " ++ decimal time
reply_text (Dropped n) = codes "ok " ++ decimal n
reply_text (Slots kept slots) = codes "ok " ++ decimal kept ++ codes " " ++ decimal slots
reply_text (Refused why) = refusal_text why

abbrev pub reply_line : Reply → List ℕ
reply_line reply = reply_text reply ++ codes "\n"

-- so many bytes are enough for a reply's line
abbrev pub line_room : Reply → ℕ
line_room (Bytes bytes) = 80 + 2 * length bytes
line_room reply = 80
