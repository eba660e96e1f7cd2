-- From what is read and what is then answered to what holds of an input.
use Rattle.std.proofs.Common.{◌≡◌, ℕ, ◌+◌, inl, inr, true, false, List, [], Some, Result, Ok, Err, refl, sym, ap, subst, arith}
use Rattle.std.specs.Prelude.{⊤}
use Rattle.std.proofs.KnownBytes.{Keeps-refl}
use Rattle.dym_base.specs.declared.bad_kind.BadKind.{BadKind}
use Rattle.dym_base.specs.declared.limits.TheConstants.{MOST_INPUT_BYTES}
use Rattle.dym_io.specs.Faults.{RoseOnce}
use Rattle.dym_io.specs.Sink.{Output, Appended, AppendedFront, Stopped, FaultsTellCause}
use Rattle.dym_io.specs.Laws.{appended_nothing, front_of_appended}
use Rattle.dym_report.specs.declared.write_fail.WriteFail.{WriteFail}
use Rattle.dym_report.specs.declared.write_fail.WriteFail.TheVariants as write
use Rattle.dym_script.specs.Keepers.{IsWhole}
use Rattle.dym_script.specs.Scripts.{ScriptMeaning, script_of}
use Rattle.dym_script.specs.declared.pieces.WholeScript.{WholeScript}
use Rattle.dym_script.specs.declared.script.Decl.{Decl}
use Rattle.dym_script.specs.declared.script.Line.{Line}
use Rattle.dymelor_top.specs.Answers.{Answer, text_answer, fault_answer, of_script}
use Rattle.dym_gen.specs.Scripts.{generated}
use Rattle.dym_words.specs.declared.order.Order.TheVariants.{Gen}
use Rattle.dymelor_top.specs.Calls.{SameVerdict, TellsScript, ReadsSource, Answers, AnswersRead, HadOrder, AnswersInput, AnswersOrder}
use Rattle.dymelor_top.specs.Headline.{Input}
use Rattle.dymelor_top.specs.Stops.{of_write}
use Rattle.dymelor_top.specs.declared.stop.Stop.{Stop}
use Rattle.dymelor_top.specs.declared.stop.Stop.TheVariants as stop
use Rattle.dymelor_top.proofs.SourceReads.{took_nothing}
use Rattle.dymelor_top.proofs.WholeInput.{turned}

-- nothing was written, which is a front of any answer
nothing_wrote : (a : Output) (t : List ℕ) → AppendedFront a a t
nothing_wrote a t = front_of_appended a a [] t (appended_nothing a)

-- ---- how a call answers what was read

module _ (Is : Answer → Type 0) (a : Output) where
  pub told_fault : (line : ℕ) (kind : BadKind) → Is (fault_answer line kind) → AnswersRead Is a a (Err (stop.Bad line kind))
  told_fault line kind is = record {
    answered = (is, refl);
    sink = λ other. absurd (cc);
    sink_stands = λ _. refl;
    no_usage = λ other. absurd (cc);
    no_source = λ other. absurd (cc);
  }

  pub wanted_memory : AnswersRead Is a a (Err stop.Memory)
  wanted_memory = record {
    answered = λ answer is. nothing_wrote a answer.text;
    sink = λ other. absurd (cc);
    sink_stands = λ _. refl;
    no_usage = λ other. absurd (cc);
    no_source = λ other. absurd (cc);
  }

  pub told_text : (b : Output) (done : ⊤) (text : List ℕ) → Is (text_answer text) → Appended a b text → AnswersRead Is a b (Ok done)
  told_text b done text is written = record {
    answered = (text, is, written);
    sink = λ other. absurd (cc);
    sink_stands = λ _. written.faults;
    no_usage = λ other. absurd (cc);
    no_source = λ other. absurd (cc);
  }

  -- the sink failed, or memory ran out
  pub cut_text : (b : Output) (e : WriteFail) (text : List ℕ) → ((x : Answer) → Is x → x ≡ text_answer text) → AppendedFront a b text
      → FaultsTellCause (e ≡ write.Sink) a b → AnswersRead Is a b (Err (of_write e))
  cut_text b write.Sink text only front blames = record {
    answered = λ x is. subst (λ (y : Answer). AppendedFront a b y.text) (sym (only x is)) front;
    sink = λ _. blames.0 refl;
    sink_stands = λ other. absurd (other refl);
    no_usage = λ other. absurd (cc);
    no_source = λ other. absurd (cc);
  }
  cut_text b write.Memory text only front blames = record {
    answered = λ x is. subst (λ (y : Answer). AppendedFront a b y.text) (sym (only x is)) front;
    sink = λ other. absurd (cc);
    sink_stands = λ _. blames.1 (λ other. absurd (cc));
    no_usage = λ other. absurd (cc);
    no_source = λ other. absurd (cc);
  }

  pub cut_by_sink : (b : Output) (text : List ℕ) → ((x : Answer) → Is x → x ≡ text_answer text) → Stopped a b text → AnswersRead Is a b (Err stop.Sink)
  cut_by_sink b text only cut = cut_text b write.Sink text only cut.front (λ _. cut.rose, λ other. absurd (other refl))

-- ---- how a call answers an input

-- another account of the same answers
answers_as : (P Q : Answer → Type 0) (a b : Output) (r : Result ⊤ Stop) → ((x : Answer) → P x → Q x) → ((x : Answer) → Q x → P x) → Answers P a b r → Answers Q a b r
answers_as P Q a b (Ok done) to back w = (w.0, to (text_answer w.0) w.1, w.2)
answers_as P Q a b (Err stop.Usage) to back w = (to _ w.0, w.1)
answers_as P Q a b (Err (stop.Bad line kind)) to back w = (to (fault_answer line kind) w.0, w.1)
answers_as P Q a b (Err stop.Source) to back w = λ x is. w x (back x is)
answers_as P Q a b (Err stop.Sink) to back w = λ x is. w x (back x is)
answers_as P Q a b (Err stop.Memory) to back w = λ x is. w x (back x is)

module _ {X : Type 0} (T : List ℕ → Result X Stop → Type 0) (Is : List ℕ → Answer → Type 0) (old new : Input) where
  -- what was read stops the call
  pub stopped_reading : (a : Output) (e : Stop) → ((bytes : List ℕ) (line : ℕ) (kind : BadKind) → T bytes (Err (stop.Bad line kind)) → Is bytes (fault_answer line kind))
      → ReadsSource T old new (Err e) → AnswersInput HadOrder true Is old new a a (Err e)
  stopped_reading a stop.Usage faulty reads = absurd (reads.no_usage refl)
  stopped_reading a (stop.Bad line kind) faulty reads = record {
    ends = λ other. absurd (cc);
    answered = λ bytes known. (faulty bytes line kind (reads.told bytes known), refl);
    bounded = reads.bounded;
    read = reads.read;
    unread = λ other. absurd (cc);
    source = λ other. absurd (cc);
    source_stands = λ _. reads.source_stands (λ other. absurd (cc));
    sink = λ other. absurd (cc);
    sink_stands = λ _. refl;
  }
  stopped_reading a stop.Source faulty reads = record {
    ends = λ other. absurd (cc);
    answered = λ bytes known x is. nothing_wrote a x.text;
    bounded = reads.bounded;
    read = reads.read;
    unread = λ other. absurd (cc);
    source = λ _. (reads.source refl, refl);
    source_stands = λ other. absurd (other refl);
    sink = λ other. absurd (cc);
    sink_stands = λ _. refl;
  }
  stopped_reading a stop.Sink faulty reads = absurd (reads.no_sink refl)
  stopped_reading a stop.Memory faulty reads = record {
    ends = λ other. absurd (cc);
    answered = λ bytes known x is. nothing_wrote a x.text;
    bounded = reads.bounded;
    read = reads.read;
    unread = λ other. absurd (cc);
    source = λ other. absurd (cc);
    source_stands = λ _. reads.source_stands (λ other. absurd (cc));
    sink = λ other. absurd (cc);
    sink_stands = λ _. refl;
  }

  -- what was made of it is answered
  answered_reading : (a b : Output) (r : Result ⊤ Stop) (x : X) (Now : Answer → Type 0) → ReadsSource T old new (Ok x) → AnswersRead Now a b r
      → ((bytes : List ℕ) → T bytes (Ok x) → Answers (Is bytes) a b r) → AnswersInput HadOrder true Is old new a b r
  answered_reading a b r x Now reads now answered = record {
    ends = now.no_usage;
    answered = λ bytes known. answered bytes (reads.told bytes known);
    bounded = reads.bounded;
    read = λ low. reads.read (omega arith);
    unread = λ other. absurd (cc);
    source = λ is. absurd (now.no_source is);
    source_stands = λ _. reads.source_stands (λ other. absurd (cc));
    sink = now.sink;
    sink_stands = now.sink_stands;
  }

  -- bytes were read whose answer is that of the whole input
  pub answered_bytes : (a b : Output) (r : Result ⊤ Stop) (x : X) (read : List ℕ) → ReadsSource T old new (Ok x) → AnswersRead (Is read) a b r
      → ((bytes : List ℕ) → T bytes (Ok x) → SameVerdict read bytes)
      → ((read all : List ℕ) (y : Answer) → SameVerdict read all → Is read y → Is all y) → AnswersInput HadOrder true Is old new a b r
  answered_bytes a b r x read reads now whole same =
      answered_reading a b r x (Is read) reads now (λ bytes told.
      answers_as (Is read) (Is bytes) a b r (λ y. same read bytes y (whole bytes told)) (λ y. same bytes read y (turned read bytes (whole bytes told))) now.answered)

-- a script was read
module _ {K : Type 0} (Keeps : K → List Decl → List Line → Type 0) (f : ScriptMeaning → Answer) (old new : Input) where
  pub script_stopped : (a : Output) (e : Stop) → ReadsSource (TellsScript Keeps) old new (Err e)
      → AnswersInput HadOrder true (λ bytes x. x ≡ of_script f (script_of bytes)) old new a a (Err e)
  script_stopped a e reads =
      stopped_reading (TellsScript Keeps) (λ bytes x. x ≡ of_script f (script_of bytes)) old new a e (λ bytes line kind is. sym (ap (of_script f) is)) reads

  pub script_answered : (a b : Output) (r : Result ⊤ Stop) (made : WholeScript K) → ReadsSource (TellsScript Keeps) old new (Ok made)
      → ((s : ScriptMeaning) → IsWhole (Keeps made.kept) made.version made.objects.items made.commands s → AnswersRead (λ x. x ≡ f s) a b r)
      → AnswersInput HadOrder true (λ bytes x. x ≡ of_script f (script_of bytes)) old new a b r
  script_answered a b r made reads answers =
      let some = reads.some.1 in
      answered_reading (TellsScript Keeps) (λ bytes x. x ≡ of_script f (script_of bytes)) old new a b r made (λ x. x ≡ f some.0) reads (answers some.0 some.2)
      (λ bytes told. subst (λ p. Answers (λ x. x ≡ of_script f p) a b r) (sym told.1) (answers told.0 told.2).answered)

-- a count that stays at 0 didn't rise
never_once : ¬ RoseOnce 0 0
never_once (inl e) = omega (arith, e)
never_once (inr e) = omega (arith, e.0)

-- the same of an input that was made, and stands in memory
pub answered_made : (Is : List ℕ → Answer → Type 0) (source old new : Input) (a b : Output) (r : Result ⊤ Stop) (bytes : List ℕ) → old.left ≡ Some bytes
    → old.faults ≡ 0 → new.faults ≡ 0 → AnswersInput HadOrder true Is old new a b r → AnswersInput HadOrder false (λ _. Is bytes) source source a b r
answered_made Is source old new a b r bytes known zero still answers = record {
  ends = answers.ends;
  answered = λ _ _. answers.answered bytes known;
  bounded = took_nothing (MOST_INPUT_BYTES + 1) source.left;
  read = λ _. tt;
  unread = λ _. (Keeps-refl source.left, refl);
  source = λ is. absurd (never_once (subst (λ n. RoseOnce 0 n) still (subst (λ n. RoseOnce n new.faults) zero (answers.source is).0)));
  source_stands = λ _. refl;
  sink = answers.sink;
  sink_stands = answers.sink_stands;
}

-- memory ran out before it was made
pub none_made : (Is : List ℕ → Answer → Type 0) (source : Input) (a : Output) → AnswersInput HadOrder false Is source source a a (Err stop.Memory)
none_made Is source a = record {
  ends = λ other. absurd (cc);
  answered = λ bytes known x is. nothing_wrote a x.text;
  bounded = took_nothing (MOST_INPUT_BYTES + 1) source.left;
  read = λ low. tt;
  unread = λ _. (Keeps-refl source.left, refl);
  source = λ other. absurd (cc);
  source_stands = λ _. refl;
  sink = λ other. absurd (cc);
  sink_stands = λ _. refl;
}

-- an order to make a script, which takes no memory: it was written whole, or the sink failed
module _ (seed objects commands : ℕ) (source : Input) (a b : Output) where
  pub generated_whole : (done : ⊤) → Appended a b (generated seed objects commands) → AnswersOrder (Ok (Gen seed objects commands)) source source a b (Ok done)
  generated_whole done written = record {
    ends = inl refl;
    answered = λ bytes known. (generated seed objects commands, refl, written);
    bounded = took_nothing (MOST_INPUT_BYTES + 1) source.left;
    read = λ low. tt;
    unread = λ _. (Keeps-refl source.left, refl);
    source = λ other. absurd (cc);
    source_stands = λ _. refl;
    sink = λ other. absurd (cc);
    sink_stands = λ _. written.faults;
  }

  pub generated_cut : Stopped a b (generated seed objects commands) → AnswersOrder (Ok (Gen seed objects commands)) source source a b (Err stop.Sink)
  generated_cut cut = record {
    ends = inr refl;
    answered = λ bytes known x is. subst (λ (y : Answer). AppendedFront a b y.text) (sym is) cut.front;
    bounded = took_nothing (MOST_INPUT_BYTES + 1) source.left;
    read = λ low. absurd (omega (arith, low));
    unread = λ _. (Keeps-refl source.left, refl);
    source = λ other. absurd (cc);
    source_stands = λ _. refl;
    sink = λ _. cut.rose;
    sink_stands = λ other. absurd (other refl);
  }

-- words of no order
pub no_order : (source : Input) (a : Output) → AnswersOrder (Err (record {})) source source a a (Err stop.Usage)
no_order source a = record {
  ends = refl;
  answered = λ bytes known. (refl, refl);
  bounded = took_nothing (MOST_INPUT_BYTES + 1) source.left;
  read = λ low. tt;
  unread = λ _. (Keeps-refl source.left, refl);
  source = λ other. absurd (cc);
  source_stands = λ _. refl;
  sink = λ other. absurd (cc);
  sink_stands = λ _. refl;
}
