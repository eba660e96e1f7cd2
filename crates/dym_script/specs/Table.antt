-- The table of the commands: the word of each, its operands, and the command that their values make. A new command is a new row.
use Rattle.std.specs.Prelude.{◌≡◌, ℕ, ◌-◌, ◌^◌, Bool, true, false, not, ◌&&◌, ◌||◌, ◌==◌, if◌then◌else◌, List, [], ◌∷◌, length, codes, Option, None, Some, is_none, find, Result, Ok, Err}
use Rattle.std.specs.Str.{bytes_eq}
use Rattle.dym_base.specs.declared.limits.TheConstants.{MOST_READ_BYTES}
use Rattle.dym_base.specs.declared.handle.Handle.{Handle}
use Rattle.dym_base.specs.declared.bad_kind.BadKind.{BadKind}
use Rattle.dym_base.specs.declared.bad_kind.BadKind.TheVariants as bad
use Rattle.dym_base.specs.declared.command.Command.{Command}
use Rattle.dym_base.specs.declared.command.Command.TheVariants as command
use Rattle.dym_script.specs.declared.verb.Verb.{Verb}
use Rattle.dym_script.specs.declared.verb.Verb.TheVariants as verb
use Rattle.dym_script.specs.Words.{number_to, handle_of, handle_or_nil_of}
use Rattle.dym_commands.specs.Hexes.{hex_of}

-- what a word after a verb may be. Num32, Byte and ReadLen are numbers up to a bound of their own
pub data Operand : Type 0 where
  Num : Operand
  Num32 : Operand
  Byte : Operand
  ReadLen : Operand
  OneHandle : Operand
  HandleOrNil : Operand
  Hex : Operand

-- what such a word stands for: a number, a handle, a handle or nil, or bytes
abbrev pub Value : Operand → Type 0
Value Num = ℕ
Value Num32 = ℕ
Value Byte = ℕ
Value ReadLen = ℕ
Value OneHandle = Handle
Value HandleOrNil = Option Handle
Value Hex = List ℕ

-- the value of a word, where it is one for that operand
abbrev pub value_of : (operand : Operand) → List ℕ → Option (Value operand)
value_of Num word = number_to (2 ^ 64 - 1) word
value_of Num32 word = number_to (2 ^ 32 - 1) word
value_of Byte word = number_to 255 word
value_of ReadLen word = number_to MOST_READ_BYTES word
value_of OneHandle word = handle_of word
value_of HandleOrNil word = handle_or_nil_of word
value_of Hex word = hex_of word

-- the values of operands
abbrev pub Values : List Operand → Type 0
Values [] = Unit {0}
Values (operand ∷ operands) = Value operand × Values operands

-- both values, where there are two
abbrev pub both : {A B : Type 0} → Option A → Option B → Option (A × B)
both None b = None
both (Some a) None = None
both (Some a) (Some b) = Some (a, b)

-- the values of words, where each is one for its operand
abbrev pub values_of : (operands : List Operand) → List (List ℕ) → Option (Values operands)
values_of [] words = Some tt
values_of (operand ∷ operands) [] = None
values_of (operand ∷ operands) (word ∷ words) = both (value_of operand word) (values_of operands words)

-- a row of the table
pub record Row : Type 0 where
  pub word : List ℕ
  pub operands : List Operand
  pub make : Values operands → Command

-- the rows of the table
abbrev pub row : Verb → Row
row verb.Malloc = record { word = codes "malloc"; operands = Num ∷ []; make = λ v. command.Malloc v.0 }
row verb.Calloc = record { word = codes "calloc"; operands = Num ∷ Num ∷ []; make = λ v. command.Calloc v.0 v.1.0 }
row verb.Realloc = record { word = codes "realloc"; operands = HandleOrNil ∷ Num ∷ []; make = λ v. command.Realloc v.0 v.1.0 }
row verb.Free = record { word = codes "free"; operands = HandleOrNil ∷ []; make = λ v. command.Free v.0 }
row verb.Write = record { word = codes "write"; operands = OneHandle ∷ Num32 ∷ Hex ∷ []; make = λ v. command.Write v.0 v.1.0 v.1.1.0 }
row verb.Fill = record {
  word = codes "fill";
  operands = OneHandle ∷ Num32 ∷ Num32 ∷ Byte ∷ [];
  make = λ v. command.Fill v.0 v.1.0 v.1.1.0 v.1.1.1.0;
}
row verb.Read = record { word = codes "read"; operands = OneHandle ∷ Num32 ∷ ReadLen ∷ []; make = λ v. command.Read v.0 v.1.0 v.1.1.0 }
row verb.Link = record { word = codes "link"; operands = OneHandle ∷ Num32 ∷ HandleOrNil ∷ []; make = λ v. command.Link v.0 v.1.0 v.1.1.0 }
row verb.Follow = record { word = codes "follow"; operands = OneHandle ∷ Num32 ∷ []; make = λ v. command.Follow v.0 v.1.0 }
row verb.Sum = record { word = codes "sum"; operands = OneHandle ∷ []; make = λ v. command.Sum v.0 }
row verb.Log = record { word = codes "log"; operands = Num ∷ []; make = λ v. command.Log v.0 }
row verb.Ilog = record { word = codes "ilog"; operands = Num ∷ []; make = λ v. command.Ilog v.0 }
row verb.Restore = record { word = codes "restore"; operands = Num ∷ []; make = λ v. command.Restore v.0 }
row verb.Prune = record { word = codes "prune"; operands = Num ∷ []; make = λ v. command.Prune v.0 }
row verb.Logs = record { word = codes "logs"; operands = []; make = λ v. command.Logs }

-- all of them, in the order of the table
abbrev pub verbs : List Verb
verbs =
    verb.Malloc ∷ verb.Calloc ∷ verb.Realloc ∷ verb.Free ∷ verb.Write ∷ verb.Fill ∷ verb.Read ∷ verb.Link ∷ verb.Follow
    ∷ verb.Sum ∷ verb.Log ∷ verb.Ilog ∷ verb.Restore ∷ verb.Prune ∷ verb.Logs ∷ []

-- the verb whose word this is
unfoldable pub verb_of : List ℕ → Option Verb
verb_of word = find (λ v. bytes_eq word (row v).word) verbs

-- the operands that are handles
abbrev pub is_handle : Operand → Bool
is_handle OneHandle = true
is_handle HandleOrNil = true
is_handle operand = false

-- the operand that is bytes
abbrev pub is_hex : Operand → Bool
is_hex Hex = true
is_hex operand = false

-- the operands that are numbers, which are all others
abbrev pub is_number : Operand → Bool
is_number operand = not (is_handle operand || is_hex operand)

-- some word isn't one for its operand, which is of this sort
abbrev pub wrong : (Operand → Bool) → List Operand → List (List ℕ) → Bool
wrong sort [] words = false
wrong sort (operand ∷ operands) [] = false
wrong sort (operand ∷ operands) (word ∷ words) = sort operand && is_none (value_of operand word) || wrong sort operands words

-- the command of these values. Where no word is wrong, there are values
abbrev pub made : (v : Verb) → Option (Values (row v).operands) → Result Command BadKind
made v None = Err bad.Command
made v (Some values) = Ok ((row v).make values)

-- the command that a verb makes of the words after it. How many they are is tested first, then the numbers, the handles and
-- the bytes
unfoldable pub command_of : Verb → List (List ℕ) → Result Command BadKind
command_of v words =
    let operands = (row v).operands in
    if not (length words == length operands) then Err bad.Command
    else if wrong is_number operands words then Err bad.Number
    else if wrong is_handle operands words then Err bad.Handle
    else if wrong is_hex operands words then Err bad.Hex
    else made v (values_of operands words)

-- what a reader of words answers is what the grammar gives
abbrev pub Gives : {X Y : Type 0} → (X → Y) → Result X BadKind → Result Y BadKind → Type 0
Gives view (Ok x) given = given ≡ Ok (view x)
Gives view (Err kind) given = given ≡ Err kind
