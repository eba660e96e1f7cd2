-- Each trace has a verdict.
use Rattle.std.proofs.Common.{◌≡◌, ◌⊎◌, inl, inr, ℕ, zero, suc, ◌+◌, List, [], length, get_or, take, drop, ◌∙◌, subst, refl, arith}
use Rattle.std.proofs.lemmas.List.{length-drop, nil_from_length}
use Rattle.dym_base.specs.declared.limits.TheConstants.{LOG_SLOTS}
use Rattle.dym_slots.specs.Slots.{Core, start}
use Rattle.dym_slots.specs.SlotSteps.{Step}
use Rattle.dym_trace.specs.declared.answer.TraceAnswer.{TraceAnswer}
use Rattle.dym_trace.specs.declared.answer.TraceAnswer.TheVariants.{Good, Bad}
use Rattle.dym_base.specs.Lines.{lines_of}
use Rattle.dym_trace.specs.Verdict.{Reach, LineStep, IsNoStep, IsGood, IsBad, IsVerdict}
use Rattle.dym_trace.proofs.Reading.{one_reading}
use Rattle.dym_trace.proofs.Runs.{reach_more, bad_line, good_lines}
use Rattle.dym_trace.proofs.Decided.{step_decided}
use Rattle.dym_trace.proofs.Guessed.{line_read}

-- a line leads from a state to some state, or to none
line_decided : (line : List ℕ) (c : Core) → ((d : Core) × LineStep line c d) ⊎ IsNoStep line c
line_decided line c = elim (line_read line) [
  | inl some ↦ elim (step_decided some.0 c) [
    | inl step ↦ inl (step.0, record { event = some.0; read = some.1; step = step.1 })
    | inr none ↦ inr (λ d step. none d (subst (λ e. Step e c d) (one_reading line step.event some.0 step.read some.1) step.step))
  ]
  | inr none ↦ inr (λ d step. none step.event step.read)
]

-- all lines are steps, or one of them is the first that is none
abbrev IsJudged : List (List ℕ) → TraceAnswer → Type 0
IsJudged lines (Good events) = IsGood lines events
IsJudged lines (Bad line) = IsBad lines line

judge : (lines : List (List ℕ)) (n i : ℕ) (c : Core) → i + n ≡ length lines → Reach (take i lines) c → (x : TraceAnswer) × IsJudged lines x
judge lines zero i c all reached =
    let none : drop i lines ≡ [] = nil_from_length (drop i lines) (length-drop i lines ∙ omega arith) in
    (Good i, good_lines lines i c (omega arith) none reached)
judge lines (suc n) i c all reached = elim (line_decided (get_or lines i []) c) [
  | inl next ↦ judge lines n (i + 1) next.0 (omega arith) (reach_more lines i (get_or lines i []) c next.0 (omega arith) refl reached next.1)
  | inr none ↦ (Bad (i + 1), bad_line lines i (get_or lines i []) c (omega arith) refl reached none)
]

verdict_of : (bytes : List ℕ) (x : TraceAnswer) → IsJudged (lines_of bytes) x → IsVerdict bytes x
verdict_of bytes (Good events) is = is
verdict_of bytes (Bad line) is = is

pub some_verdict : (bytes : List ℕ) → (x : TraceAnswer) × IsVerdict bytes x
some_verdict bytes =
    let x = judge (lines_of bytes) (length (lines_of bytes)) 0 (start LOG_SLOTS) (omega arith) (record { events = []; read = tt; steps = refl }) in
    (x.0, verdict_of bytes x.0 x.1)
