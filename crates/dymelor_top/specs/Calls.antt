-- What the parts of a top call promise.
use Rattle.std.specs.Prelude.{◌≡◌, ◌+◌, ◌<◌, ◌≤◌, ◌⊎◌, ⊤, ℕ, Bool, true, false, List, [], length, Some, Result, Ok, Err, IfOk, IsErrOf}
use Rattle.std.specs.Io.KnownBytes.{Keeps}
use Rattle.dym_base.specs.declared.bad_kind.BadKind.{BadKind}
use Rattle.dym_base.specs.declared.limits.TheConstants.{MOST_INPUT_BYTES}
use Rattle.dym_io.specs.Faults.{RoseOnce}
use Rattle.dym_io.specs.Source.{TookAtMost}
use Rattle.dym_io.specs.Sink.{Output, Appended, AppendedFront}
use Rattle.dym_report.specs.Orders.{error_text, usage_text}
use Rattle.dym_script.specs.Keepers.{IsWhole}
use Rattle.dym_script.specs.Scripts.{ScriptMeaning, script_of}
use Rattle.dym_script.specs.declared.counter.Counter.{Counter}
use Rattle.dym_script.specs.declared.pieces.WholeScript.{WholeScript}
use Rattle.dym_script.specs.declared.script.Decl.{Decl}
use Rattle.dym_script.specs.declared.script.Line.{Line}
use Rattle.dym_words.specs.declared.order.Order.{Order}
use Rattle.dym_words.specs.declared.order.Order.TheVariants.{Gen}
use Rattle.dym_words.specs.declared.order.Usage.{Usage}
use Rattle.dymelor_top.specs.Answers.{Answer, text_answer, fault_answer, usage_answer, IsAnswer, reads}
use Rattle.dymelor_top.specs.Headline.{Input, IsInput, WasRead, WroteFront, WroteAll}
use Rattle.dymelor_top.specs.Stops.{status_of}
use Rattle.dymelor_top.specs.declared.stop.Stop.{Stop}
use Rattle.dymelor_top.specs.declared.stop.Stop.TheVariants as stop

-- what was read is the whole input, or both are too long
abbrev pub SameVerdict : List ℕ → List ℕ → Type 0
SameVerdict read all = (read ≡ all) ⊎ ((MOST_INPUT_BYTES < length read) × (MOST_INPUT_BYTES < length all))

-- what a reader of the code answers: what it made is so, or the input has this fault
abbrev pub Tells : {X : Type 0} → (X → Type 0) → (ℕ → BadKind → Type 0) → Result X Stop → Type 0
Tells Made Faulty (Ok x) = Made x
Tells Made Faulty (Err (stop.Bad line kind)) = Faulty line kind
Tells Made Faulty (Err other) = Unit {0}

-- a script was read and kept so, or has this fault
abbrev pub TellsScript : {K : Type 0} → (K → List Decl → List Line → Type 0) → List ℕ → Result (WholeScript K) Stop → Type 0
TellsScript Keeps bytes =
    Tells (λ whole. (s : ScriptMeaning) × (script_of bytes ≡ Ok s) × IsWhole (Keeps whole.kept) whole.version whole.objects.items whole.commands s)
    (λ line kind. script_of bytes ≡ Err (record { line = line; kind = kind }))

-- a script was read and counted
abbrev pub IsCounted : WholeScript Counter → ScriptMeaning → Type 0
IsCounted whole s = IsWhole (λ objects lines. Unit {0}) whole.version whole.objects.items whole.commands s

-- what holds of a call that reads a source, where `Told` says what it answers to which bytes
pub record ReadsSource {X : Type 0} (Told : List ℕ → Result X Stop → Type 0) (old new : Input) (result : Result X Stop) : Type 0 where
  pub some : IfOk result (λ x. (bytes : List ℕ) × Told bytes (Ok x))
  pub told : (bytes : List ℕ) → old.left ≡ Some bytes → Told bytes result
  pub read : status_of result ≤ 2 → WasRead true old new
  pub bounded : TookAtMost (MOST_INPUT_BYTES + 1) old.left new.left
  pub source : IsErrOf result stop.Source → RoseOnce old.faults new.faults
  pub source_stands : ¬ IsErrOf result stop.Source → new.faults ≡ old.faults
  -- no other stops it
  pub no_usage : ¬ IsErrOf result stop.Usage
  pub no_sink : ¬ IsErrOf result stop.Sink

-- what a call writes of its answer: a whole text at Ok, nothing where the answer is a line that tells what is wrong, and else a front
abbrev pub Answers : (Answer → Type 0) → Output → Output → Result ⊤ Stop → Type 0
Answers Is old new (Ok done) = (text : List ℕ) × Is (text_answer text) × Appended old new text
Answers Is old new (Err stop.Usage) = Is usage_answer × (new ≡ old)
Answers Is old new (Err (stop.Bad line kind)) = Is (fault_answer line kind) × (new ≡ old)
Answers Is old new (Err other) = (answer : Answer) → Is answer → AppendedFront old new answer.text

-- what holds of a call that answers what was read
pub record AnswersRead (Is : Answer → Type 0) (old new : Output) (result : Result ⊤ Stop) : Type 0 where
  pub answered : Answers Is old new result
  pub sink : IsErrOf result stop.Sink → RoseOnce old.faults new.faults
  pub sink_stands : ¬ IsErrOf result stop.Sink → new.faults ≡ old.faults
  -- no other stops it
  pub no_usage : ¬ IsErrOf result stop.Usage
  pub no_source : ¬ IsErrOf result stop.Source

-- words of no order are not what stops it
abbrev pub HadOrder : Result ⊤ Stop → Type 0
HadOrder result = ¬ IsErrOf result stop.Usage

-- what holds of a call that answers an input, which it reads from its source or not, where `May` says how it may end, and `Is` the answers
pub record AnswersInput (May : Result ⊤ Stop → Type 0) (reads_it : Bool) (Is : List ℕ → Answer → Type 0)
    (old new : Input) (sink_old sink_new : Output) (result : Result ⊤ Stop) : Type 0 where
  pub ends : May result
  pub answered : (bytes : List ℕ) → IsInput reads_it old bytes → Answers (Is bytes) sink_old sink_new result
  pub bounded : TookAtMost (MOST_INPUT_BYTES + 1) old.left new.left
  pub read : status_of result ≤ 2 → WasRead reads_it old new
  pub unread : reads_it ≡ false → Keeps old.left new.left × (new.faults ≡ old.faults)
  pub source : IsErrOf result stop.Source → RoseOnce old.faults new.faults × (sink_new ≡ sink_old)
  pub source_stands : ¬ IsErrOf result stop.Source → new.faults ≡ old.faults
  pub sink : IsErrOf result stop.Sink → RoseOnce sink_old.faults sink_new.faults
  pub sink_stands : ¬ IsErrOf result stop.Sink → sink_new.faults ≡ sink_old.faults

-- how a call may end that had this order: words of none stop it, and to make a script takes no memory
abbrev pub MayEnd : Result Order Usage → Result ⊤ Stop → Type 0
MayEnd (Err usage) result = IsErrOf result stop.Usage
MayEnd (Ok (Gen seed objects commands)) result = (status_of result ≡ 0) ⊎ (status_of result ≡ 4)
MayEnd (Ok order) result = HadOrder result

-- what holds of a call that answers an order
abbrev pub AnswersOrder : Result Order Usage → Input → Input → Output → Output → Result ⊤ Stop → Type 0
AnswersOrder order = AnswersInput (MayEnd order) (reads order) (IsAnswer order)

-- the line that tells of what stopped a call, where it is its answer
abbrev pub last_text : Result ⊤ Stop → List ℕ
last_text (Err stop.Usage) = usage_text
last_text (Err (stop.Bad line kind)) = error_text line kind
last_text result = []

-- a text was written and flushed, or the sink failed
abbrev pub WritesLast : List ℕ → Output → Output → ℕ → ℕ → Type 0
WritesLast text old new whole status =
    ((status ≡ whole) × WroteAll old new text × (new.faults ≡ old.faults)) ⊎ ((status ≡ 4) × WroteFront old new text × RoseOnce old.faults new.faults)

-- what the end of a call does
pub record Finishes (answered : Result ⊤ Stop) (old new : Output) (status : ℕ) : Type 0 where
  pub whole : status_of answered ≤ 2 → WritesLast (last_text answered) old new (status_of answered) status
  pub stopped : 2 < status_of answered → (status ≡ status_of answered) × (new ≡ old)
