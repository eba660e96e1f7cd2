-- What the machine does with a line.
use Rattle.std.proofs.Common.{ℕ, Bool, true, false, List, Result, Ok, Err, IfOk, ◌∙◌, subst}
use Rattle.std.specs.Bool.{IsTrue}
use Rattle.std.specs.declared.alloc.AllocError.{AllocError}
use Rattle.dym_slots.specs.declared.machine.Event.{Event}
use Rattle.dym_slots.specs.SlotSteps.{Step}
use Rattle.dym_slots.specs.SlotLaws.{EachStepKeepsFacts}
use Rattle.dym_trace.specs.declared.machine.Machine.{Machine}
use Rattle.dym_trace.specs.Events.{Reads}
use Rattle.dym_trace.specs.Machine.{core_of, IsSound, Does}
use Rattle.dym_trace.specs.Verdict.{LineStep, OneReading}

-- an event that a line reads as is a step exactly where the line is one
pub line_does : OneReading → (line : List ℕ) (e : Event) → Reads line e → (m n : Machine) (r : Result Bool AllocError) → IfOk r (Does (Step e) m n) → IfOk r (Does (LineStep line) m n)
line_does one line e reads m n (Ok true) h = record { event = e; read = reads; step = h }
line_does one line e reads m n (Ok false) h = λ d step. h d (subst (λ f. Step f (core_of m) d) (one line step.event e step.read reads) step.step)
line_does one line e reads m n (Err x) h = h

-- a machine that did a step is sound
pub still_sound : EachStepKeepsFacts → (e : Event) (m n : Machine) (r : Result Bool AllocError) → IsSound m → IfOk r (Does (Step e) m n) → IfOk r (λ done. IsTrue done → IsSound n)
still_sound law e m n (Ok true) sound h = λ yes.
    let kept = law e (core_of m) (core_of n) h sound.facts in
    record { slots = kept.1 ∙ sound.slots; facts = kept.0 }
still_sound law e m n (Ok false) sound h = λ yes. cc
still_sound law e m n (Err x) sound h = h
