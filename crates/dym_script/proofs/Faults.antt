-- The first bad line.
use Rattle.std.proofs.Common.{◌≡◌, ℕ, ◌+◌, ◌<◌, ◌≤◌, [], ◌∷◌, ◌++◌, length, Ok, Err, ap, arith}
use Rattle.dym_script.specs.Scripts.{Fault, read_line, read_lines, go_on}
use Rattle.dym_base.specs.declared.bad_kind.BadKind.{BadKind}
use Rattle.dym_script.specs.Laws.{FaultStays, FaultIsWithin}

pub fault_stays : FaultStays
fault_stays r number [] more fault bad = absurd (cc)
fault_stays r number (line ∷ lines) more fault bad =
    elim (read_line r number line) as (λ o. go_on number o (λ next. read_lines next (number + 1) lines) ≡ Err fault
    → go_on number o (λ next. read_lines next (number + 1) (lines ++ more)) ≡ Err fault) [
      | Ok next ↦ λ later. fault_stays next (number + 1) lines more fault later
      | Err kind ↦ λ here. here
    ] bad

-- this kind of fault, in this line
abbrev fault_at : ℕ → BadKind → Fault
fault_at number kind = record { line = number; kind = kind }

pub fault_is_within : FaultIsWithin
fault_is_within r number [] fault bad = absurd (cc)
fault_is_within r number (line ∷ lines) fault bad =
    elim (read_line r number line) as (λ o. go_on number o (λ next. read_lines next (number + 1) lines) ≡ Err fault
    → (number ≤ fault.line) × (fault.line < number + length (line ∷ lines))) [
      | Ok next ↦ λ later. let within = fault_is_within next (number + 1) lines fault later in (omega (arith, within.0), omega (arith, within.1))
      | Err kind ↦ λ here. let is : fault_at number kind ≡ fault = cc in let same : number ≡ fault.line = ap (λ (f : Fault). f.line) is in (omega arith, omega arith)
    ] bad
