-- Each event leads to one state at most, and so each trace has one verdict.
use Rattle.std.proofs.Common.{◌≡◌, inl, inr, ℕ, zero, suc, ◌-◌, ◌<◌, List, [], ◌∷◌, length, get_or, take, sym, ◌∙◌, ap, subst, refl, arith}
use Rattle.std.specs.List.{AllZip}
use Rattle.std.proofs.lemmas.Bool.{cases_lt}
use Rattle.std.proofs.lemmas.List.{take-take, get_or-take, length-take}
use Rattle.dym_base.specs.declared.limits.TheConstants.{LOG_SLOTS}
use Rattle.dym_slots.specs.declared.machine.Slot.TheVariants.{Live, OutOwner}
use Rattle.dym_slots.specs.declared.machine.Event.{Event}
use Rattle.dym_slots.specs.declared.machine.Event.TheVariants.{OwnerLook, OwnerClaim, OwnerTake, OwnerEmpty, OwnerFill, OwnerPut, OwnerLower, OwnerFree, OwnerRaise, SweeperRoot, SweeperLook, SweeperGrab, SweeperEmpty, SweeperFree}
use Rattle.dym_slots.specs.Slots.{Core, start}
use Rattle.dym_slots.specs.SlotSteps.{Step, Steps}
use Rattle.dym_trace.specs.declared.answer.TraceAnswer.{TraceAnswer}
use Rattle.dym_trace.specs.declared.answer.TraceAnswer.TheVariants.{Good, Bad}
use Rattle.dym_base.specs.Lines.{lines_of}
use Rattle.dym_trace.specs.Events.{Reads}
use Rattle.dym_trace.specs.Verdict.{Reach, LineStep, IsNoStep, IsBad, IsVerdict}
use Rattle.dym_trace.proofs.Reading.{one_reading}

step_once : (e : Event) (c d f : Core) → Step e c d → Step e c f → d ≡ f
step_once (OwnerLook s) c d f x y = x.after ∙ sym y.after
step_once (OwnerClaim s) c d f x y = x.after ∙ sym y.after
step_once (OwnerTake s) c d f x y =
    let both : Live x.number ≡ Live y.number = sym x.live ∙ y.live in
    let same : x.number ≡ y.number = cc in
    x.after ∙ (rw same (sym y.after))
step_once (OwnerEmpty s) c d f x y = x.after ∙ sym y.after
step_once (OwnerFill s n) c d f x y = x.after ∙ sym y.after
step_once (OwnerPut s) c d f x y = x.after ∙ sym y.after
step_once (OwnerLower s) c d f x y =
    let both : OutOwner x.number ≡ OutOwner y.number = sym x.out ∙ y.out in
    let same : x.number ≡ y.number = cc in
    x.after ∙ (rw same (sym y.after))
step_once (OwnerFree s) c d f x y =
    let both : OutOwner x.number ≡ OutOwner y.number = sym x.out ∙ y.out in
    let same : x.number ≡ y.number = cc in
    x.after ∙ (rw same (sym y.after))
step_once (OwnerRaise n) c d f x y = x.after ∙ sym y.after
step_once SweeperRoot c d f x y = x.after ∙ sym y.after
step_once (SweeperLook s) c d f x y = x.after ∙ sym y.after
step_once (SweeperGrab s) c d f x y =
    let both : Live x.number ≡ Live y.number = sym x.live ∙ y.live in
    let same : x.number ≡ y.number = cc in
    x.after ∙ (rw same (sym y.after))
step_once (SweeperEmpty s) c d f x y = x.after ∙ sym y.after
step_once (SweeperFree s) c d f x y = x.after ∙ sym y.after

steps_once : (es : List Event) (c d f : Core) → Steps es c d → Steps es c f → d ≡ f
steps_once [] c d f x y = sym x ∙ y
steps_once (e ∷ es) c d f (m, step, rest) (n, other, more) =
    steps_once es m d f rest (subst (λ (k : Core). Steps es k f) (step_once e c n m other step) more)

same_events : (lines : List (List ℕ)) (es fs : List Event) → AllZip Reads lines es → AllZip Reads lines fs → es ≡ fs
same_events [] [] [] x y = refl
same_events [] [] (f ∷ fs) x y = absurd y
same_events [] (e ∷ es) fs x y = absurd x
same_events (l ∷ lines) [] fs x y = absurd x
same_events (l ∷ lines) (e ∷ es) [] x y = absurd y
same_events (l ∷ lines) (e ∷ es) (f ∷ fs) x y =
    let head : e ≡ f = one_reading l e f x.0 y.0 in
    let tail : es ≡ fs = same_events lines es fs x.1 y.1 in
    cc

reach_once : (lines : List (List ℕ)) (c d : Core) → Reach lines c → Reach lines d → c ≡ d
reach_once lines c d x y =
    let same = same_events lines y.events x.events y.read x.read in
    steps_once x.events (start LOG_SLOTS) c d x.steps (subst (λ (es : List Event). Steps es (start LOG_SLOTS) d) same y.steps)

-- lines that are steps, up to one of them and with it
run_split : (lines : List (List ℕ)) (i : ℕ) (a d : Core) → i < length lines → (es : List Event) → AllZip Reads lines es → Steps es a d →
    (c : Core) × (fs : List Event) × AllZip Reads (take i lines) fs × Steps fs a c × ((m : Core) × LineStep (get_or lines i []) c m)
run_split [] i a d lt es all steps = absurd (omega arith)
run_split (l ∷ lines) i a d lt [] all steps = absurd all
run_split (l ∷ lines) zero a d lt (e ∷ es) all (m, step, rest) = (a, [], tt, refl, (m, record { event = e; read = all.0; step = step }))
run_split (l ∷ lines) (suc i) a d lt (e ∷ es) all (m, step, rest) =
    let r = run_split lines i m d (omega arith) es all.1 rest in
    (r.0, e ∷ r.1, (all.0, r.2), (m, step, r.3), r.4)

-- lines that are all steps have none that isn't
no_stop : (lines : List (List ℕ)) (i : ℕ) (c d : Core) → i < length lines → Reach lines d → Reach (take i lines) c → ¬ IsNoStep (get_or lines i []) c
no_stop lines i c d lt x y none =
    let r = run_split lines i (start LOG_SLOTS) d lt x.events x.read x.steps in
    let same : r.0 ≡ c = reach_once (take i lines) r.0 c (record { events = r.1; read = r.2; steps = r.3 }) y in
    none r.4.0 (subst (λ (k : Core). LineStep (get_or lines i []) k r.4.0) same r.4.1)

-- no bad line comes before another
no_earlier : (lines : List (List ℕ)) (k j : ℕ) → k < j → IsBad lines k → ¬ IsBad lines j
no_earlier lines k j lt x y =
    let k_first = x.within.0 in
    let j_within = y.within.1 in
    let short : take (k - 1) (take (j - 1) lines) ≡ take (k - 1) lines = take-take (k - 1) (j - 1) lines (omega arith) in
    let line : get_or (take (j - 1) lines) (k - 1) [] ≡ get_or lines (k - 1) [] = get_or-take (j - 1) lines (k - 1) [] (omega arith) in
    let inside : k - 1 < length (take (j - 1) lines) = simp length-take (omega arith) in
    no_stop (take (j - 1) lines) (k - 1) x.state y.state inside y.reached (rw short x.reached) (rw line x.no_step)

pub one_verdict : (bytes : List ℕ) (x y : TraceAnswer) → IsVerdict bytes x → IsVerdict bytes y → x ≡ y
one_verdict bytes (Good a) (Good b) x y = ap Good (x.all ∙ sym y.all)
one_verdict bytes (Good a) (Bad k) x y = absurd (let first = y.within.0 in let within = y.within.1 in no_stop (lines_of bytes) (k - 1) y.state x.state (omega arith) x.reached y.reached y.no_step)
one_verdict bytes (Bad k) (Good b) x y = absurd (let first = x.within.0 in let within = x.within.1 in no_stop (lines_of bytes) (k - 1) x.state y.state (omega arith) y.reached x.reached x.no_step)
one_verdict bytes (Bad k) (Bad j) x y = elim (cases_lt k j) [
  | inl lt ↦ absurd (no_earlier (lines_of bytes) k j lt x y)
  | inr ge ↦ elim (cases_lt j k) [
    | inl lt ↦ absurd (no_earlier (lines_of bytes) j k lt y x)
    | inr le ↦ ap Bad (omega arith)
  ]
]
