-- Words that are good for a row of the table.
use Rattle.std.proofs.Common.{◌≡◌, ℕ, ◌==◌, Bool, true, false, ◌&&◌, ◌||◌, List, [], ◌∷◌, length, Option, Some, None, Ok, is_none, eq-eqb, refl}
use Rattle.std.specs.Option.{ok_or}
use Rattle.dym_script.specs.declared.verb.Verb.{Verb}
use Rattle.dym_script.specs.Table.{Operand, Values, value_of, values_of, both, row, command_of, wrong, is_number, is_handle, is_hex}

-- no word is wrong where each has a value
not_wrong : (sort : Operand → Bool) (operands : List Operand) (words : List (List ℕ)) (values : Values operands)
    → values_of operands words ≡ Some values → wrong sort operands words ≡ false
not_wrong sort [] words values is = refl
not_wrong sort (operand ∷ operands) [] values is = refl
not_wrong sort (operand ∷ operands) (word ∷ words) values is =
    elim (value_of operand word) as (λ o. both o (values_of operands words) ≡ Some values
    → (sort operand && is_none o || wrong sort operands words) ≡ false) [
      | None ↦ λ h. absurd (cc)
      | Some v ↦ λ h. elim (values_of operands words) as (λ o. values_of operands words ≡ o → both (Some v) o ≡ Some values
          → (sort operand && false || wrong sort operands words) ≡ false) [
            | None ↦ λ e clash. absurd (cc)
            | Some vs ↦ λ e _. rw (not_wrong sort operands words vs e) (elim (sort operand) as (λ b. (b && false || false) ≡ false) [ true ↦ refl | false ↦ refl ])
          ] refl h
    ] is

-- the command of words that have values for a verb's operands
pub command_good : (v : Verb) (words : List (List ℕ)) (values : Values (row v).operands) → length words ≡ length (row v).operands
    → values_of (row v).operands words ≡ Some values → command_of v words ≡ Ok ((row v).make values)
unfolding command_of
command_good v words values count is =
    let same : (length words == length (row v).operands) ≡ true = eq-eqb (length words) (length (row v).operands) count in
    rw (
      same,
      not_wrong is_number (row v).operands words values is,
      not_wrong is_handle (row v).operands words values is,
      not_wrong is_hex
          (row v).operands words values is,
      is,
    ) refl

-- a word that was read has a value
pub some_read : {X E : Type 0} (read : Option X) (x : X) (kind : E) → Ok x ≡ ok_or read kind → read ≡ Some x
some_read None x kind is = absurd (cc)
some_read (Some y) x kind is = cc

-- both values are there
pub both_read : {A B : Type 0} {a : Option A} {b : Option B} {x : A} {y : B} → a ≡ Some x → b ≡ Some y → both a b ≡ Some (x, y)
both_read first second = rw (first, second) refl
