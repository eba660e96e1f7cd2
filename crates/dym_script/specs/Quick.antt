-- Lines in the usual spelling: one space before each word after the first, and the line end right after the last.
use Rattle.std.specs.Prelude.{◌≡◌, ◌&&◌, ◌==◌, ℕ, Bool, true, not, nat_le, List, [], ◌∷◌, ◌++◌, length, Option, Some, Ok}
use Rattle.std.specs.List.{list_all}
use Rattle.std.specs.Str.Parse.{digits_value}
use Rattle.dym_script.specs.declared.verb.Verb.{Verb}
use Rattle.dym_commands.specs.declared.request.Request.{Request}
use Rattle.dym_script.specs.Lines.{is_word}
use Rattle.dym_commands.specs.Requests.{asks}
use Rattle.dym_script.specs.Words.{is_digits, exponent_of}
use Rattle.dym_script.specs.Table.{Operand, Values, values_of, verb_of, command_of}

-- a byte that may stand in a word: it may stand in a line, and is no space
abbrev pub is_bare : ℕ → Bool
is_bare b = nat_le 0x21 b && nat_le b 0x7e

-- a word that isn't empty, of such bytes
abbrev pub is_bare_word : List ℕ → Bool
is_bare_word word = is_word word && list_all is_bare word

-- words in the usual spelling
abbrev pub spelled : List (List ℕ) → List ℕ
spelled [] = []
spelled (word ∷ words) = 32 ∷ word ++ spelled words

-- the text is digits that write this number, and then the rest
pub record Counts (text : List ℕ) (number : ℕ) (rest : List ℕ) : Type 0 where
  pub digits : List ℕ
  pub is : text ≡ digits ++ rest
  pub good : is_digits digits ≡ true
  pub value : digits_value 10 digits ≡ number

-- the text is a chunk size that is spelled with its own digits alone, a colon, and then the rest
pub record Sizes (text : List ℕ) (exp : ℕ) (rest : List ℕ) : Type 0 where
  pub size : List ℕ
  pub is : text ≡ size ++ 58 ∷ rest
  pub bare : list_all is_bare size ≡ true
  pub whole : list_all (λ b. not (b == 58)) size ≡ true
  pub value : exponent_of size ≡ Some exp

-- the text is a space, a word that is read as this value, and then the rest
pub record Begins {X : Type 0} (read : List ℕ → Option X) (text : List ℕ) (value : X) (rest : List ℕ) : Type 0 where
  pub word : List ℕ
  pub is : text ≡ 32 ∷ word ++ rest
  pub bare : is_bare_word word ≡ true
  pub reads : read word ≡ Some value

-- the text is words in the usual spelling that are operands with these values, a line end, and what stands after it
pub record Spells (operands : List Operand) (text : List ℕ) (values : Values operands) (after : List ℕ) : Type 0 where
  pub words : List (List ℕ)
  pub is : text ≡ spelled words ++ 10 ∷ after
  pub bare : list_all is_bare_word words ≡ true
  pub count : length words ≡ length operands
  pub reads : values_of operands words ≡ Some values

-- the text is a verb and its words in the usual spelling, which ask this, a line end, and what stands after it
pub record Demands (text : List ℕ) (asked : Request (List ℕ)) (after : List ℕ) : Type 0 where
  pub verb : Verb
  pub word : List ℕ
  pub words : List (List ℕ)
  pub is : text ≡ spelled (word ∷ words) ++ 10 ∷ after
  pub bare : list_all is_bare_word (word ∷ words) ≡ true
  pub named : verb_of word ≡ Some verb
  pub makes : command_of verb words ≡ Ok (asks asked)
