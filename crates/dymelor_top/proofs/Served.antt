-- From what a call answers, and its end, to the headline.
use Rattle.std.proofs.Common.{◌≡◌, ℕ, ◌+◌, ◌<◌, ◌≤◌, ◌⊎◌, inl, inr, Bool, true, false, List, [], ◌++◌, length, nat_lt, nat_le, Option, Some, None, IfSome, Result, Ok, Err, MatchBool, refl, sym, ap, subst, ◌∙◌, append-nil, append_assoc, arith}
use Rattle.std.proofs.lemmas.Bool.Decides.{nat_tests}
use Rattle.std.specs.Option.{OnSome}
use Rattle.std.specs.Prelude.{⊤}
use Rattle.std.proofs.KnownBytes.{Appends-trans}
use Rattle.dym_base.specs.declared.limits.TheConstants.{MOST_INPUT_BYTES}
use Rattle.dym_base.specs.declared.bad_kind.BadKind.TheVariants as bad
use Rattle.dym_io.specs.Faults.{RoseOnce}
use Rattle.dym_io.specs.Sink.{Output, Appended, AppendedFront}
use Rattle.dym_io.specs.Laws.{appended_nothing, once_rose, rose_later}
use Rattle.dym_trace.proofs.Once.{one_verdict}
use Rattle.dym_words.specs.declared.order.Order.{Order}
use Rattle.dym_words.specs.declared.order.Order.TheVariants.{Plain, Run, Check, Gen, Trace, Save, Load, Views, Late}
use Rattle.dym_words.specs.declared.order.Usage.{Usage}
use Rattle.dymelor_top.specs.declared.stop.Stop.{Stop}
use Rattle.dymelor_top.specs.declared.stop.Stop.TheVariants as stop
use Rattle.dymelor_top.specs.Stops.{status_of}
use Rattle.dymelor_top.specs.Answers.{Answer, fault_answer, of_verdict, IsJudged, IsLoadedText, IsPartFault, IsTraceAnswer, IsLoadAnswer, IsOrderAnswer, IsAnswer, input_of, input_bytes, reads}
use Rattle.dymelor_top.specs.Headline.{Input, IsInput, WroteFront, WroteAll, Headline}
use Rattle.dymelor_top.specs.Calls.{Answers, AnswersOrder, MayEnd, last_text, Finishes}
use Rattle.dymelor_top.proofs.FileAnswers.{one_loaded}

-- ---- each input has one answer

-- a trace has one verdict
one_judged : (bytes : List ℕ) (x y : Answer) → IsJudged bytes x → IsJudged bytes y → x ≡ y
one_judged bytes x y p q = p.is ∙ ap of_verdict (one_verdict bytes p.verdict q.verdict p.right q.right) ∙ sym q.is

one_tested : (Is : Answer → Type 0) → ((x y : Answer) → Is x → Is y → x ≡ y) → (b : Bool) (x y : Answer)
    → MatchBool b (x ≡ fault_answer 0 bad.TooLong) (Is x) → MatchBool b (y ≡ fault_answer 0 bad.TooLong) (Is y) → x ≡ y
one_tested Is one true x y p q = p ∙ sym q
one_tested Is one false x y p q = one x y p q

pub one_trace : (bytes : List ℕ) (x y : Answer) → IsTraceAnswer bytes x → IsTraceAnswer bytes y → x ≡ y
one_trace bytes = one_tested (IsJudged bytes) (one_judged bytes) (nat_lt MOST_INPUT_BYTES (length bytes))

pub one_load : (time : Option ℕ) (bytes : List ℕ) (x y : Answer) → IsLoadAnswer time bytes x → IsLoadAnswer time bytes y → x ≡ y
one_load time bytes =
    one_tested (λ a. IsLoadedText time bytes a ⊎ IsPartFault bytes a) (one_loaded time bytes) (nat_lt MOST_INPUT_BYTES (length bytes))

one_order : (order : Order) (bytes : List ℕ) (x y : Answer) → IsOrderAnswer order bytes x → IsOrderAnswer order bytes y → x ≡ y
one_order (Plain input summary) bytes x y p q = p ∙ sym q
one_order (Run workers segments quantum input summary) bytes x y p q = p ∙ sym q
one_order Check bytes x y p q = p ∙ sym q
one_order (Gen seed objects commands) bytes x y p q = p ∙ sym q
one_order Trace bytes x y p q = one_trace bytes x y p q
one_order (Save name) bytes x y p q = p ∙ sym q
one_order (Load time) bytes x y p q = one_load time bytes x y p q
one_order (Views workers segments quantum) bytes x y p q = p ∙ sym q
one_order Late bytes x y p q = p ∙ sym q

pub one_answer : (order : Result Order Usage) (bytes : List ℕ) (x y : Answer) → IsAnswer order bytes x → IsAnswer order bytes y → x ≡ y
one_answer (Ok order) bytes x y p q = one_order order (input_bytes (input_of order) bytes) x y p q
one_answer (Err usage) bytes x y p q = p ∙ sym q

-- ---- what was written

-- a flush after an appended text leaves all bytes flushed since the text's start
flushed_since : (written : Option (List ℕ)) (f g h : Option ℕ) → g ≡ f
    → IfSome written (λ bytes. OnSome g (h ≡ Some (length bytes))) → IfSome written (λ bytes. OnSome f (h ≡ Some (length bytes)))
flushed_since None f g h is x = tt
flushed_since (Some bytes) f g h is x = subst (λ k. OnSome k (h ≡ Some (length bytes))) is x

-- a text was written, and then another
pub both_wrote : (a b c : Output) (t u : List ℕ) → Appended a b t → WroteAll b c u → WroteAll a c (t ++ u)
both_wrote a b c t u p q = record {
  written = Appends-trans a.written b.written c.written t u p.written q.written;
  flushed = flushed_since c.written a.flushed b.flushed c.flushed p.flushed q.flushed;
}

pub front_wrote_after : (a b c : Output) (t u : List ℕ) → Appended a b t → WroteFront b c u → WroteFront a c (t ++ u)
front_wrote_after a b c t u p q = record {
  front = t ++ q.front;
  rest = q.rest;
  whole = ap (λ l. t ++ l) q.whole ∙ sym (append_assoc t q.front q.rest);
  written = Appends-trans a.written b.written c.written t q.front p.written q.written;
}

pub front_wrote : (a b : Output) (t : List ℕ) → AppendedFront a b t → WroteFront a b t
front_wrote a b t p = record { front = p.front; rest = p.rest; whole = p.whole; written = p.written }

all_is_front : (a b : Output) (t : List ℕ) → WroteAll a b t → WroteFront a b t
all_is_front a b t p = record { front = t; rest = []; whole = sym (append-nil t); written = p.written }

-- ---- the answer and the end of the call

-- where the call told its answer, this is it: what was written before the end and the end's line are its text
pub record ToldAnswer (Is : Answer → Type 0) (a b : Output) (r : Result ⊤ Stop) : Type 0 where
  pub answer : Answer
  pub is : Is answer
  pub status : status_of r ≡ answer.status
  pub before : List ℕ
  pub text : before ++ last_text r ≡ answer.text
  pub written : Appended a b before

told : (Is : Answer → Type 0) (a b : Output) (r : Result ⊤ Stop) → status_of r ≤ 2 → Answers Is a b r → ToldAnswer Is a b r
told Is a b (Ok done) low w = record { answer = _; is = w.1; status = refl; before = w.0; text = append-nil w.0; written = w.2 }
told Is a b (Err stop.Usage) low w =
    record { answer = _; is = w.0; status = refl; before = []; text = refl; written = subst (λ o. Appended a o []) (sym w.1) (appended_nothing a) }
told Is a b (Err (stop.Bad line kind)) low w =
    record { answer = fault_answer line kind; is = w.0; status = refl; before = []; text = refl; written = subst (λ o. Appended a o []) (sym w.1) (appended_nothing a) }
told Is a b (Err stop.Source) low w = absurd (omega (arith, low))
told Is a b (Err stop.Sink) low w = absurd (omega (arith, low))
told Is a b (Err stop.Memory) low w = absurd (omega (arith, low))

fronts : (Is : Answer → Type 0) (a b : Output) (r : Result ⊤ Stop) → 2 < status_of r → Answers Is a b r → (answer : Answer) → Is answer → WroteFront a b answer.text
fronts Is a b (Ok done) high w = absurd (omega (arith, high))
fronts Is a b (Err stop.Usage) high w = absurd (omega (arith, high))
fronts Is a b (Err (stop.Bad line kind)) high w = absurd (omega (arith, high))
fronts Is a b (Err stop.Source) high w = λ x is. front_wrote a b x.text (w x is)
fronts Is a b (Err stop.Sink) high w = λ x is. front_wrote a b x.text (w x is)
fronts Is a b (Err stop.Memory) high w = λ x is. front_wrote a b x.text (w x is)

usage_of : (r : Result ⊤ Stop) → status_of r ≡ 1 → r ≡ Err stop.Usage
usage_of (Ok done) is = absurd (omega (arith, is))
usage_of (Err stop.Usage) is = refl
usage_of (Err (stop.Bad line kind)) is = absurd (omega (arith, is))
usage_of (Err stop.Source) is = absurd (omega (arith, is))
usage_of (Err stop.Sink) is = absurd (omega (arith, is))
usage_of (Err stop.Memory) is = absurd (omega (arith, is))

source_of : (r : Result ⊤ Stop) → status_of r ≡ 3 → r ≡ Err stop.Source
source_of (Ok done) is = absurd (omega (arith, is))
source_of (Err stop.Usage) is = absurd (omega (arith, is))
source_of (Err (stop.Bad line kind)) is = absurd (omega (arith, is))
source_of (Err stop.Source) is = refl
source_of (Err stop.Sink) is = absurd (omega (arith, is))
source_of (Err stop.Memory) is = absurd (omega (arith, is))

sink_of : (r : Result ⊤ Stop) → status_of r ≡ 4 → r ≡ Err stop.Sink
sink_of (Ok done) is = absurd (omega (arith, is))
sink_of (Err stop.Usage) is = absurd (omega (arith, is))
sink_of (Err (stop.Bad line kind)) is = absurd (omega (arith, is))
sink_of (Err stop.Source) is = absurd (omega (arith, is))
sink_of (Err stop.Sink) is = refl
sink_of (Err stop.Memory) is = absurd (omega (arith, is))

five_most : (r : Result ⊤ Stop) → status_of r ≤ 5
five_most (Ok done) = omega arith
five_most (Err stop.Usage) = omega arith
five_most (Err (stop.Bad line kind)) = omega arith
five_most (Err stop.Source) = omega arith
five_most (Err stop.Sink) = omega arith
five_most (Err stop.Memory) = omega arith

last_of_three : (n : ℕ) → 2 < n → n ≤ 5 → ¬ (n ≡ 3) → ¬ (n ≡ 4) → n ≡ 5
last_of_three n more most three four = grind (arith)

-- words of no order alone get status 1
usage_only : (order : Result Order Usage) (r : Result ⊤ Stop) → MayEnd order r → status_of r ≡ 1 → order ≡ Err (record {})
usage_only (Err usage) r may is = refl
usage_only (Ok (Plain input summary)) r may is = absurd (may (usage_of r is))
usage_only (Ok (Run workers segments quantum input summary)) r may is = absurd (may (usage_of r is))
usage_only (Ok Check) r may is = absurd (may (usage_of r is))
usage_only (Ok (Gen seed objects commands)) r (inl zero) is = absurd (omega (arith, zero, is))
usage_only (Ok (Gen seed objects commands)) r (inr four) is = absurd (omega (arith, four, is))
usage_only (Ok Trace) r may is = absurd (may (usage_of r is))
usage_only (Ok (Save name)) r may is = absurd (may (usage_of r is))
usage_only (Ok (Load time)) r may is = absurd (may (usage_of r is))
usage_only (Ok (Views workers segments quantum)) r may is = absurd (may (usage_of r is))
usage_only (Ok Late) r may is = absurd (may (usage_of r is))

-- ---- the headline

module _ (order : Result Order Usage) (old new : Input) (a b c : Output) (r : Result ⊤ Stop) (answers : AnswersOrder order old new a b r) where
  stopped_by_usage : order ≡ Err (record {}) → status_of r ≡ 1
  stopped_by_usage is = ap status_of (subst (λ o. MayEnd o r) is answers.ends)

  made_so : (seed objects commands : ℕ) → order ≡ Ok (Gen seed objects commands) → (status_of r ≡ 0) ⊎ (status_of r ≡ 4)
  made_so seed objects commands is = subst (λ o. MayEnd o r) is answers.ends

  low_calm : status_of r ≤ 2 → new.faults ≡ old.faults
  low_calm low = answers.source_stands (λ is. absurd (omega (arith, low, ap status_of is)))

  low_still : status_of r ≤ 2 → b.faults ≡ a.faults
  low_still low = answers.sink_stands (λ is. absurd (omega (arith, low, ap status_of is)))

  -- the answer, whose text was written with the end's line
  the_answer : status_of r ≤ 2 → (bytes : List ℕ) → IsInput (reads order) old bytes → ToldAnswer (IsAnswer order bytes) a b r
  the_answer low bytes known = told (IsAnswer order bytes) a b r low (answers.answered bytes known)

  written_whole : (low : status_of r ≤ 2) → WroteAll b c (last_text r) → (bytes : List ℕ) → IsInput (reads order) old bytes
      → (x : Answer) × IsAnswer order bytes x × (status_of r ≡ x.status) × WroteAll a c x.text
  written_whole low end bytes known =
      let x = the_answer low bytes known in
      (x.answer, x.is, x.status, subst (WroteAll a c) x.text (both_wrote a b c x.before (last_text r) x.written end))

  -- of the one answer a front was written
  written_front : (low : status_of r ≤ 2) → WroteFront b c (last_text r) → (bytes : List ℕ) → IsInput (reads order) old bytes → (y : Answer)
      → IsAnswer order bytes y → WroteFront a c y.text
  written_front low end bytes known y of_y =
      let x = the_answer low bytes known in
      subst (λ (z : Answer). WroteFront a c z.text) (one_answer order bytes x.answer y x.is of_y)
      (subst (WroteFront a c) x.text (front_wrote_after a b c x.before (last_text r) x.written end))

  -- the answer was written whole
  whole : (status : ℕ) → status_of r ≤ 2 → status ≡ status_of r → WroteAll b c (last_text r) → c.faults ≡ b.faults → Headline order old new a c status
  whole status low is end calm =
      let below : status ≤ 2 = omega (arith, low, is) in
      record {
        answered = λ bytes known. record {
          prefix = written_front low (all_is_front b c (last_text r) end) bytes known;
          whole = λ _. let w = written_whole low end bytes known in (w.0, w.1, is ∙ w.2, w.3);
          complete = λ source sink. inl below;
        };
        bounded = answers.bounded;
        read = λ _. answers.read low;
        unread = answers.unread;
        usage = λ one. usage_only order r answers.ends (sym is ∙ one);
        only_usage = λ none. inl (is ∙ stopped_by_usage none);
        made = λ seed objects commands gen. elim (made_so seed objects commands gen) [ inl zero ↦ inl (is ∙ zero) | inr four ↦ inr (is ∙ four) ];
        source = λ three. absurd (omega (arith, below, three));
        sink = λ four. absurd (omega (arith, below, four));
        source_stands = λ _. low_calm low;
        sink_stands = λ _. calm ∙ low_still low;
        known = omega (arith, below);
      }

  -- the sink failed at the end
  cut : (status : ℕ) → status_of r ≤ 2 → status ≡ 4 → WroteFront b c (last_text r) → RoseOnce b.faults c.faults → Headline order old new a c status
  cut status low is end rose =
      let once : RoseOnce a.faults c.faults = rose_later a.faults b.faults c.faults (low_still low) rose in
      record {
        answered = λ bytes known. record {
          prefix = written_front low end bytes known;
          whole = λ le. absurd (omega (arith, le, is));
          complete = λ source sink. absurd (sink (once_rose a.faults c.faults once));
        };
        bounded = answers.bounded;
        read = λ _. answers.read low;
        unread = answers.unread;
        usage = λ one. absurd (omega (arith, is, one));
        only_usage = λ none. inr is;
        made = λ seed objects commands gen. inr is;
        source = λ three. absurd (omega (arith, is, three));
        sink = λ _. once;
        source_stands = λ _. low_calm low;
        sink_stands = λ other. absurd (other is);
        known = omega (arith, is);
      }

  -- the call was stopped before
  stopped : 2 < status_of r → Headline order old new a b (status_of r)
  stopped high = record {
    answered = λ bytes known. record {
      prefix = fronts (IsAnswer order bytes) a b r high (answers.answered bytes known);
      whole = λ le. absurd (omega (arith, high, le));
      complete = λ source sink. inr (last_of_three (status_of r) high (five_most r)
          (λ three. source (once_rose old.faults new.faults (answers.source (source_of r three)).0))
          (λ four. sink (once_rose a.faults b.faults (answers.sink (sink_of r four)))));
    };
    bounded = answers.bounded;
    read = λ le. absurd (omega (arith, high, le));
    unread = answers.unread;
    usage = λ one. absurd (omega (arith, high, one));
    only_usage = λ none. absurd (omega (arith, high, stopped_by_usage none));
    made = made_so;
    source = λ three. let why = answers.source (source_of r three) in (why.0, subst (λ o. Appended a o []) (sym why.1) (appended_nothing a));
    sink = λ four. answers.sink (sink_of r four);
    source_stands = λ other. answers.source_stands (λ is. other (ap status_of is));
    sink_stands = λ other. answers.sink_stands (λ is. other (ap status_of is));
    known = five_most r;
  }

  pub headline : (status : ℕ) → Finishes r b c status → Headline order old new a c status
  headline status finishes =
      elim (nat_le (status_of r) 2) as (λ t. nat_le (status_of r) 2 ≡ t → Headline order old new a c status) [
        | true ↦ λ is. ended status finishes (grind (arith, nat_tests))
        | false ↦ λ is. left status finishes (grind (arith, nat_tests))
      ] refl
    where
      ended : (status : ℕ) → Finishes r b c status → status_of r ≤ 2 → Headline order old new a c status
      ended status finishes low =
          elim (finishes.whole low) [ inl w ↦ whole status low w.0 w.1 w.2 | inr w ↦ cut status low w.0 w.1 w.2 ]

      left : (status : ℕ) → Finishes r b c status → 2 < status_of r → Headline order old new a c status
      left status finishes high =
          let w = finishes.stopped high in
          subst (λ o. Headline order old new a o status) (sym w.1) (subst (Headline order old new a b) (sym w.0) (stopped high))
