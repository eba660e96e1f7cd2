-- The defined answer to an order: a status and a text.
use Rattle.std.specs.Prelude.{◌≡◌, ◌⊎◌, ℕ, Bool, true, false, nat_lt, if◌then◌else◌, MatchBool, List, length, Option, None, Some, Result, Ok, Err}
use Rattle.std.specs.List.{find}
use Rattle.dym_base.specs.declared.limits.TheConstants.{MOST_INPUT_BYTES}
use Rattle.dym_base.specs.declared.bad_kind.BadKind.{BadKind}
use Rattle.dym_base.specs.declared.bad_kind.BadKind.TheVariants as bad
use Rattle.dym_base.specs.Files.{FileHead, FailsAt}
use Rattle.dym_base.specs.Objects.{LogEntry}
use Rattle.dym_base.specs.declared.command.Version.{Version}
use Rattle.dym_script.specs.Late.{late_of}
use Rattle.dym_script.specs.Scripts.{ScriptMeaning, Fault, script_of}
use Rattle.dym_script.specs.declared.script.Decl.{Decl}
use Rattle.dym_trace.specs.declared.answer.TraceAnswer.{TraceAnswer}
use Rattle.dym_trace.specs.declared.answer.TraceAnswer.TheVariants.{Good, Bad}
use Rattle.dym_trace.specs.Verdict.{IsVerdict}
use Rattle.dym_gen.specs.Scripts.{generated}
use Rattle.dym_words.specs.declared.order.Input.{Input}
use Rattle.dym_words.specs.declared.order.Input.TheVariants.{Script, Made}
use Rattle.dym_words.specs.declared.order.Order.{Order}
use Rattle.dym_words.specs.declared.order.Order.TheVariants.{Plain, Run, Check, Gen, Trace, Save, Load, Views, Late}
use Rattle.dym_words.specs.declared.order.Usage.{Usage}
use Rattle.dym_report.specs.Orders.{counts_text, events_text, error_text, usage_text}
use Rattle.dymelor_top.specs.Checkpoints.{HoldsLogs, own_named, own_file, loaded_text}
use Rattle.dymelor_top.specs.LateReport.{late_text}
use Rattle.dym_script.specs.OwnCommands.{Own}
use Rattle.dym_wave.specs.Reports.{report_text, summary_of}
use Rattle.dym_wave.specs.Views.{views_text}

pub record Answer : Type 0 where
  pub status : ℕ
  pub text : List ℕ

-- a text that was asked for
abbrev pub text_answer : List ℕ → Answer
text_answer text = record { status = 0; text = text }

-- the line of a fault
abbrev pub fault_answer : ℕ → BadKind → Answer
fault_answer line kind = record { status = 2; text = error_text line kind }

abbrev pub usage_answer : Answer
usage_answer = record { status = 1; text = usage_text }

-- an answer by what a script says, or the line of its first fault
abbrev pub of_script : {S : Type 0} → (S → Answer) → Result S Fault → Answer
of_script answer (Ok said) = answer said
of_script answer (Err fault) = fault_answer fault.line fault.kind

-- the report of a script, or its summary
abbrev pub report_or_summary : Bool → ScriptMeaning → List ℕ
report_or_summary true said = summary_of said
report_or_summary false said = report_text said

-- the first declared object that may hold more than so many segments
abbrev pub first_above : ℕ → List Decl → Option Decl
first_above segments decls = find (λ d. nat_lt segments d.quota) decls

-- a text, or the line of an object that may hold too much
abbrev pub unless_above : List ℕ → Option Decl → Answer
unless_above text None = text_answer text
unless_above text (Some d) = fault_answer d.line bad.QuotaRange

-- a text of what a script says whose objects run in waves over so many segments. That an object may hold more is a fault of the whole
-- script, which comes after all faults of its lines
abbrev pub in_waves : ℕ → (ScriptMeaning → List ℕ) → ScriptMeaning → Answer
in_waves segments text said = unless_above (text said) (first_above segments said.objects)

-- how many objects and commands a script has
abbrev pub counts_of : ScriptMeaning → List ℕ
counts_of said = counts_text (length said.objects) (length said.lines)

-- how many events a good trace has, or the line of the first that is no step
abbrev pub of_verdict : TraceAnswer → Answer
of_verdict (Good events) = text_answer (events_text events)
of_verdict (Bad line) = fault_answer line bad.Step

-- the answer to a trace: that of its verdict, where it isn't too long
pub record IsJudged (bytes : List ℕ) (answer : Answer) : Type 0 where
  pub verdict : TraceAnswer
  pub right : IsVerdict bytes verdict
  pub is : answer ≡ of_verdict verdict

abbrev pub IsTraceAnswer : List ℕ → Answer → Type 0
IsTraceAnswer bytes answer = MatchBool (nat_lt MOST_INPUT_BYTES (length bytes)) (answer ≡ fault_answer 0 bad.TooLong) (IsJudged bytes answer)

-- a file, or that it is longer than an input may be
abbrev pub file_answer : List ℕ → Answer
file_answer file = if nat_lt MOST_INPUT_BYTES (length file) then fault_answer 0 bad.TooLong else text_answer file

-- the file of a declared object, or that there is none of the name
abbrev pub named_answer : Version → Option Own → Answer
named_answer version None = fault_answer 0 bad.Undeclared
named_answer version (Some o) = file_answer (own_file version o)

-- the answer to a file: what its logs come to
pub record IsLoadedText (time : Option ℕ) (bytes : List ℕ) (answer : Answer) : Type 0 where
  pub head : FileHead
  pub logs : List LogEntry
  pub holds : HoldsLogs bytes head logs
  pub is : answer ≡ text_answer (loaded_text time head logs)

-- the answer to bytes that are no file: the first part that fails
pub record IsPartFault (bytes : List ℕ) (answer : Answer) : Type 0 where
  pub part : ℕ
  pub fails : FailsAt bytes part
  pub is : answer ≡ fault_answer part bad.File

-- the answer to bytes that should be a file, where they aren't too long
abbrev pub IsLoadAnswer : Option ℕ → List ℕ → Answer → Type 0
IsLoadAnswer time bytes answer =
    MatchBool (nat_lt MOST_INPUT_BYTES (length bytes)) (answer ≡ fault_answer 0 bad.TooLong) (IsLoadedText time bytes answer ⊎ IsPartFault bytes answer)

-- the answer to an order, for the bytes of its input
abbrev pub IsOrderAnswer : Order → List ℕ → Answer → Type 0
IsOrderAnswer (Plain input summary) bytes answer = answer ≡ of_script (λ said. text_answer (report_or_summary summary said)) (script_of bytes)
IsOrderAnswer (Run workers segments quantum input summary) bytes answer =
    answer ≡ of_script (in_waves segments (report_or_summary summary)) (script_of bytes)
IsOrderAnswer Check bytes answer = answer ≡ of_script (λ said. text_answer (counts_of said)) (script_of bytes)
IsOrderAnswer (Gen seed objects commands) bytes answer = answer ≡ text_answer bytes
IsOrderAnswer Trace bytes answer = IsTraceAnswer bytes answer
IsOrderAnswer (Save name) bytes answer = answer ≡ of_script (λ said. named_answer said.version (own_named name said)) (script_of bytes)
IsOrderAnswer (Load time) bytes answer = IsLoadAnswer time bytes answer
IsOrderAnswer (Views workers segments quantum) bytes answer = answer ≡ of_script (in_waves segments views_text) (script_of bytes)
IsOrderAnswer Late bytes answer = answer ≡ of_script (λ said. text_answer (late_text said)) (late_of bytes)

-- where the input of an order comes from: that of `gen` is the script that it makes
abbrev pub input_of : Order → Input
input_of (Plain input summary) = input
input_of (Run workers segments quantum input summary) = input
input_of (Gen seed objects commands) = Made seed objects commands
input_of order = Script

-- the bytes of an input: those that are read, or the script that the generator makes
abbrev pub input_bytes : Input → List ℕ → List ℕ
input_bytes Script bytes = bytes
input_bytes (Made seed objects commands) bytes = generated seed objects commands

-- the answer to an order, or to words of none, for the bytes that are read
abbrev pub IsAnswer : Result Order Usage → List ℕ → Answer → Type 0
IsAnswer (Ok order) bytes answer = IsOrderAnswer order (input_bytes (input_of order) bytes) answer
IsAnswer (Err usage) bytes answer = answer ≡ usage_answer

abbrev pub is_read : Input → Bool
is_read Script = true
is_read (Made seed objects commands) = false

-- whether a call that has this order reads its source
abbrev pub reads : Result Order Usage → Bool
reads (Ok order) = is_read (input_of order)
reads (Err usage) = false

-- an input has at most one answer
abbrev pub OneAnswer : Type 0
OneAnswer = (order : Result Order Usage) (bytes : List ℕ) (x y : Answer) → IsAnswer order bytes x → IsAnswer order bytes y → x ≡ y
