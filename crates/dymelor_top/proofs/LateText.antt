-- The part of an object by a heap of late events that took in all that comes for it.
use Rattle.std.proofs.Common.{◌≡◌, ℕ, List, [], ◌++◌, All, length, flat_map, Err, append_assoc, sym, ap, subst, ◌∙◌}
use Rattle.dym_base.specs.LateRun.{LateEvent, Arrival, accepted, late_heap, replayed}
use Rattle.dym_base.specs.declared.command.Version.TheVariants.{One}
use Rattle.dym_heap.specs.Meaning.{HeapMeaning}
use Rattle.dym_late.specs.Meaning.{LateMeaning, IsLate}
use Rattle.dym_io.specs.Sink.{Output}
use Rattle.dym_report.specs.Late.{late_end}
use Rattle.dym_report.specs.Objects.{heading}
use Rattle.dym_script.specs.Late.{late_of}
use Rattle.dym_script.specs.LateAnswers.{GivesLate}
use Rattle.dym_script.specs.declared.script.ScriptFail.{ScriptFail}
use Rattle.dym_script.specs.declared.script.ScriptFail.TheVariants as fail
use Rattle.dymelor_top.specs.Answers.{of_script, text_answer}
use Rattle.dymelor_top.specs.Calls.{AnswersRead}
use Rattle.dymelor_top.specs.Stops.{of_script_fail}
use Rattle.dymelor_top.specs.declared.late_outcome.LateOutcome.{LateOutcome}
use Rattle.dymelor_top.specs.LateReport.{outcome_of, outcome_text, late_part, late_text}
use Rattle.dymelor_top.specs.LateParts.{TookIn, IsOneOf}
use Rattle.dymelor_top.proofs.Answered.{told_fault, wanted_memory}
use Rattle.dymelor_top.proofs.LateFacts.{events_are, ones_of}

-- a part begins with its heading
pub late_pieces : (name : List ℕ) (quota : ℕ) (xs : List Arrival) → (rest : List ℕ) × (late_part name quota xs ≡ heading name ++ rest)
unfolding late_part
late_pieces name quota xs = (_, append_assoc (heading name) _ _)

late_part_is : (name : List ℕ) (quota : ℕ) (xs : List Arrival) (events : List LateEvent) (lines : List LateOutcome) → events ≡ accepted xs → lines ≡ outcome_of xs
    → late_part name quota xs ≡ (heading name ++ flat_map (outcome_text quota events) lines) ++ late_end One (late_heap One quota events).live (replayed events)
unfolding late_part
late_part_is name quota xs events lines events_are lines_are =
    λ i. (heading name ++ flat_map (outcome_text quota (sym events_are i)) (sym lines_are i))
    ++ late_end One (late_heap One quota (sym events_are i)).live (replayed (sym events_are i))

module _ (old new : LateMeaning) (name : List ℕ) (xs : List Arrival) (none : old.events ≡ []) (zero : old.bound ≡ 0) (took : TookIn old new xs)
    (lines : List LateOutcome) (are : lines ≡ outcome_of xs) where
  -- each accepted event that a line tells of has its reply
  pub ones_there : All (IsOneOf (length new.events)) lines
  ones_there =
      let all : All (IsOneOf (length (accepted xs))) lines = subst (All (IsOneOf (length (accepted xs)))) (sym are) (ones_of xs) in
      subst (λ n. All (IsOneOf n) lines) (ap length (sym (events_are old new none zero xs took))) all

  -- the part is its heading, what the lines get, and the end
  pub part_by_heap : late_part name old.heap.quota xs
      ≡ (heading name ++ flat_map (outcome_text new.heap.quota new.events) lines) ++ late_end One (late_heap One new.heap.quota new.events).live (replayed new.events)
  part_by_heap = ap (λ q. late_part name q xs) (sym took.quota) ∙ late_part_is name new.heap.quota xs new.events lines (events_are old new none zero xs took) are

  -- the end is that of the heap itself
  pub part_whole : (heap : HeapMeaning) (count : ℕ) → IsLate new → heap ≡ new.heap → count ≡ replayed new.events → late_part name old.heap.quota xs
      ≡ (heading name ++ flat_map (outcome_text new.heap.quota new.events) lines) ++ late_end heap.version heap.state.live count
  part_whole heap count late same counted =
      let front : List ℕ = heading name ++ flat_map (outcome_text new.heap.quota new.events) lines in
      part_by_heap ∙ (λ i. front ++ late_end (sym late.version i) (sym late.live i) (sym counted i))
      ∙ (λ i. front ++ late_end (sym same i).version (sym same i).state.live count)

-- a script of late events isn't read: its answer is the line of its first fault, or memory ran out
pub late_failed : (bytes : List ℕ) (a : Output) (e : ScriptFail) → GivesLate (Err e) (late_of bytes)
    → AnswersRead (λ x. x ≡ of_script (λ said. text_answer (late_text said)) (late_of bytes)) a a (Err (of_script_fail e))
late_failed bytes a (fail.Bad line kind) is = told_fault _ a line kind (sym (ap (of_script (λ said. text_answer (late_text said))) is))
late_failed bytes a fail.Memory is = wanted_memory _ a
