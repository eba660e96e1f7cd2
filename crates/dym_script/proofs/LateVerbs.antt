-- The commands that the verbs of events make.
use Rattle.std.proofs.Common.{◌≡◌, ℕ, true, false, not, ◌==◌, if◌then◌else◌, List, length, Option, Some, None, Ok, Err, subst}
use Rattle.dym_base.specs.LateRun.{IsEventCommand}
use Rattle.dym_base.specs.declared.bad_kind.BadKind.TheVariants as bad
use Rattle.dym_base.specs.declared.command.Command.{Command}
use Rattle.dym_script.specs.declared.verb.Verb.{Verb}
use Rattle.dym_script.specs.declared.verb.Verb.TheVariants as verb
use Rattle.dym_script.specs.Late.{is_event_verb}
use Rattle.dym_script.specs.Table.{Values, row, made, command_of, wrong, is_number, is_handle, is_hex, values_of}

made_values : (v : Verb) (values : Option (Values (row v).operands)) (c : Command) → made v values ≡ Ok c → (found : Values (row v).operands) × ((row v).make found ≡ c)
made_values v None c is = absurd (cc)
made_values v (Some found) c is = (found, cc)

-- a command that is made is that of some values
command_values : (v : Verb) (words : List (List ℕ)) (c : Command) → command_of v words ≡ Ok c → (found : Values (row v).operands) × ((row v).make found ≡ c)
unfolding command_of
command_values v words c =
    let operands = (row v).operands in
    let Goal : Type 0 = (found : Values (row v).operands) × ((row v).make found ≡ c) in
    elim (not (length words == length operands)) as (λ b.
    (if b then Err bad.Command else if wrong is_number operands words then Err bad.Number else if wrong is_handle operands words then Err bad.Handle
    else if wrong is_hex operands words then Err bad.Hex else made v (values_of operands words)) ≡ Ok c → Goal) [
      | true ↦ λ is. absurd (cc)
      | false ↦ elim (wrong is_number operands words) as (λ b.
          (if b then Err bad.Number else if wrong is_handle operands words then Err bad.Handle else if wrong is_hex operands words then Err bad.Hex else
          made v (values_of operands words)) ≡ Ok c → Goal) [
            | true ↦ λ is. absurd (cc)
            | false ↦ elim (wrong is_handle operands words) as (λ b.
                (if b then Err bad.Handle else if wrong is_hex operands words then Err bad.Hex else made v (values_of operands words)) ≡ Ok c → Goal) [
                  | true ↦ λ is. absurd (cc)
                  | false ↦ elim (wrong is_hex operands words) as (λ b. (if b then Err bad.Hex else made v (values_of operands words)) ≡ Ok c → Goal) [
                    | true ↦ λ is. absurd (cc)
                    | false ↦ made_values v (values_of operands words) c
                  ]
                ]
          ]
    ]

-- a verb of events makes a command of events
makes_event : (v : Verb) (values : Values (row v).operands) → is_event_verb v ≡ true → IsEventCommand ((row v).make values)
makes_event verb.Malloc values marked = tt
makes_event verb.Calloc values marked = tt
makes_event verb.Realloc values marked = tt
makes_event verb.Free values marked = tt
makes_event verb.Write values marked = tt
makes_event verb.Fill values marked = tt
makes_event verb.Link values marked = tt
makes_event verb.Follow values marked = tt
makes_event verb.Sum values marked = tt
makes_event verb.Read values marked = absurd (cc)
makes_event verb.Log values marked = absurd (cc)
makes_event verb.Ilog values marked = absurd (cc)
makes_event verb.Restore values marked = absurd (cc)
makes_event verb.Prune values marked = absurd (cc)
makes_event verb.Logs values marked = absurd (cc)

pub event_may : (v : Verb) (words : List (List ℕ)) (c : Command) → is_event_verb v ≡ true → command_of v words ≡ Ok c → IsEventCommand c
event_may v words c marked is =
    let made = command_values v words c is in
    subst IsEventCommand made.1 (makes_event v made.0 marked)
