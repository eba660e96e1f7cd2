-- How a script is read while its source is.
use Rattle.std.specs.Prelude.{◌≡◌, ◌+◌, ◌≤◌, ◌⊎◌, ℕ, List, [], ◌++◌, length, Option, Result, Err, IfSome, OnSome}
use Rattle.std.specs.Io.KnownBytes.{Consumes}
use Rattle.dym_base.specs.declared.limits.TheConstants.{MOST_INPUT_BYTES}
use Rattle.dym_base.specs.declared.bad_kind.BadKind.{BadKind}
use Rattle.dym_script.specs.Scripts.{ScriptMeaning, Fault, script_of}
use Rattle.dym_script.specs.Pieces.{says}

-- the bytes so far have a bad line, whatever comes behind them
abbrev pub IsFaultOf : List ℕ → ℕ → BadKind → Type 0
IsFaultOf front line kind = (more : List ℕ) → says (front ++ more) ≡ Err (record { line = line; kind = kind })

-- nothing is left, or so many bytes were read that the input is too long
abbrev pub IsReadOut : Option (List ℕ) → Option (List ℕ) → ℕ → Type 0
IsReadOut old new n = OnSome old (IfSome new (λ more. (more ≡ []) ⊎ (n ≡ MOST_INPUT_BYTES + 1)))

-- behind these bytes others were taken from the source, until it was read out, and this holds of what all of them say
pub record TakesBytes (front : List ℕ) (old new : Option (List ℕ)) (Gives : Result ScriptMeaning Fault → Type 0) : Type 0 where
  pub got : List ℕ
  pub taken : Consumes old new got
  pub within : length (front ++ got) ≤ MOST_INPUT_BYTES + 1
  pub out : IsReadOut old new (length (front ++ got))
  pub gives : Gives (script_of (front ++ got))

-- so many bytes were pulled before and so many in all, until the source was read out
pub record IsDrained (pulled : ℕ) (old new : Option (List ℕ)) (all : ℕ) : Type 0 where
  pub got : List ℕ
  pub taken : Consumes old new got
  pub count : pulled + length got ≡ all
  pub within : all ≤ MOST_INPUT_BYTES + 1
  pub out : IsReadOut old new all
