-- Lists of lines that are steps.
use Rattle.std.proofs.Common.{◌≡◌, ℕ, zero, suc, ◌+◌, ◌-◌, ◌<◌, ◌≤◌, List, [], ◌∷◌, ◌++◌, length, get_or, take, drop, add-one, sym, ap, subst, refl, arith}
use Rattle.std.specs.List.{AllZip}
use Rattle.std.proofs.lemmas.List.{take_more, take_all, length-drop}
use Rattle.dym_slots.specs.declared.machine.Event.{Event}
use Rattle.dym_slots.specs.Slots.{Core}
use Rattle.dym_slots.specs.SlotSteps.{Step, Steps}
use Rattle.dym_trace.specs.Events.{Reads}
use Rattle.dym_trace.specs.Verdict.{Reach, LineStep, IsNoStep, IsGood, IsBad}

steps_more : (es : List Event) (a c d : Core) (e : Event) → Steps es a c → Step e c d → Steps (es ++ e ∷ []) a d
steps_more [] a c d e same step = (d, subst (λ (x : Core). Step e x d) (sym same) step, refl)
steps_more (x ∷ es) a c d e (m, first, rest) step = (m, first, steps_more es m c d e rest step)

read_more : (lines : List (List ℕ)) (es : List Event) (line : List ℕ) (e : Event) → AllZip Reads lines es → Reads line e → AllZip Reads (lines ++ line ∷ []) (es ++ e ∷ [])
read_more [] [] line e all one = (one, tt)
read_more [] (x ∷ es) line e all one = absurd all
read_more (l ∷ lines) [] line e all one = absurd all
read_more (l ∷ lines) (x ∷ es) line e all one = (all.0, read_more lines es line e all.1 one)

-- one more line that is a step
pub reach_more : (lines : List (List ℕ)) (i : ℕ) (line : List ℕ) (c d : Core) → i < length lines → get_or lines i [] ≡ line →
    Reach (take i lines) c → LineStep line c d → Reach (take (i + 1) lines) d
reach_more lines i line c d within is r step =
    let more : take (i + 1) lines ≡ take i lines ++ line ∷ [] = rw (← is) (take_more lines i [] within) in
    rw more (record {
      events = r.events ++ step.event ∷ [];
      read = read_more (take i lines) r.events line step.event r.read step.read;
      steps = steps_more r.events _ c d step.event r.steps step.step;
    })

-- what is left of a list begins with the next line
pub next_line : (lines : List (List ℕ)) (i : ℕ) (line : List ℕ) (more : List (List ℕ)) → drop i lines ≡ line ∷ more → (i < length lines) × (get_or lines i [] ≡ line) × (drop (i + 1) lines ≡ more)
next_line [] zero line more e = absurd cc
next_line [] (suc i) line more e = absurd cc
next_line (x ∷ lines) zero line more e = (omega arith, cc, cc)
next_line (x ∷ lines) (suc i) line more e =
    let rest = next_line lines i line more e in
    (omega (arith, rest.0), rest.1, rw add-one (rw add-one at rest.2))

-- the first line that is no step
pub bad_line : (lines : List (List ℕ)) (i : ℕ) (line : List ℕ) (c : Core) → i < length lines → get_or lines i [] ≡ line → Reach (take i lines) c → IsNoStep line c → IsBad lines (i + 1)
bad_line lines i line c within is r none =
    let same : i ≡ i + 1 - 1 = omega arith in
    record {
      within = (omega arith, omega arith);
      state = c;
      reached = subst (λ j. Reach (take j lines) c) same r;
      no_step = subst (λ j. IsNoStep (get_or lines j []) c) same (rw is none);
    }

-- all lines are steps
pub good_lines : (lines : List (List ℕ)) (i : ℕ) (c : Core) → i ≤ length lines → drop i lines ≡ [] → Reach (take i lines) c → IsGood lines i
good_lines lines i c within none r =
    let all : length lines ≤ i = omega (arith, length-drop i lines, ap (λ (x : List (List ℕ)). length x) none) in
    record { state = c; reached = subst (λ (x : List (List ℕ)). Reach x c) (take_all i lines all) r; all = omega arith }
