-- What the grammar says of the lines of a made script.
use Rattle.std.proofs.Common.{◌≡◌, ℕ, ◌-◌, ◌^◌, ◌<◌, ◌≤◌, ◌==◌, Bool, true, false, not, ◌&&◌, List, [], ◌∷◌, ◌++◌, length, codes, Some, None, Ok, nat_lt, refl, ap, ◌∙◌, arith}
use Rattle.std.specs.Prelude.{decimal}
use Rattle.std.specs.List.{list_all}
use Rattle.std.specs.Str.{bytes_eq}
use Rattle.std.proofs.lemmas.Bool.Decides.{nat_tests}
use Rattle.dym_base.specs.Names.{is_name}
use Rattle.dym_base.specs.declared.command.Command.{Command}
use Rattle.dym_base.specs.declared.limits.TheConstants.{MOST_LINE_BYTES, MOST_OBJECTS, MOST_COMMANDS, MOST_QUOTA}
use Rattle.dym_script.specs.declared.verb.Verb.{Verb}
use Rattle.dym_script.specs.declared.verb.Verb.TheVariants as verb
use Rattle.dym_base.specs.Lines.{lines_of}
use Rattle.dym_script.specs.Lines.{words_of, is_printable}
use Rattle.dym_script.specs.Table.{row, verb_of}
use Rattle.dym_script.specs.Scripts.{Reading, object_of, is_version, read_line}
use Rattle.dym_script.specs.Quick.{is_bare_word, spelled}
use Rattle.dym_script.proofs.Spelled.{words_of_spelled, lines_of_front, line_printable}
use Rattle.dym_script.proofs.Rows.{command_good}
use Rattle.dym_gen.proofs.GoodWords.{decimal_read, name_of, no_object, name_good, name_bare}
use Rattle.dym_gen.proofs.GoodCommands.{IsCommand}

-- Lines in the usual spelling

-- a line of words that may stand in one
pub record IsLine (line first : List ℕ) (words : List (List ℕ)) : Type 0 where
  pub is : line ≡ first ++ spelled words
  pub first_bare : is_bare_word first ≡ true
  pub words_bare : list_all is_bare_word words ≡ true
  pub short : length line ≤ MOST_LINE_BYTES

-- it is cut from the text, may stand in a script, and has these words
pub line_cut : (line first : List ℕ) (words : List (List ℕ)) → IsLine line first words → (after : List ℕ) → lines_of (line ++ 10 ∷ after) ≡ line ∷ lines_of after
line_cut line first words l after = rw l.is (lines_of_front (first ++ spelled words) after
    (line_printable first words l.first_bare l.words_bare))

line_words : (line first : List ℕ) (words : List (List ℕ)) → IsLine line first words → words_of line ≡ first ∷ words
line_words line first words l = rw l.is (words_of_spelled first words l.first_bare l.words_bare)

printable : (line first : List ℕ) (words : List (List ℕ)) → IsLine line first words → list_all is_printable line ≡ true
printable line first words l = rw l.is (line_printable first words l.first_bare l.words_bare)

and_no : (b : Bool) → (b && false) ≡ false
and_no true = refl
and_no false = refl

-- Declarations

abbrev pub declared : Reading → ℕ → List ℕ → ℕ → Reading
declared r number name quota = record {
  begun = true;
  said = record r.said { objects = r.said.objects ++ record { name = name; quota = quota; line = number } ∷ [] };
}

pub read_declaration : (r : Reading) (number quota : ℕ) (line name : List ℕ) → IsLine line (codes "object") (name ∷ decimal quota ∷ []) → is_name name ≡ true
    → object_of r.said.objects name ≡ None
    → 1 ≤ quota → quota ≤ MOST_QUOTA → length r.said.objects < MOST_OBJECTS → read_line r number line ≡ Ok (declared r number name quota)
unfolding read_line
read_declaration r number quota line name is named fresh low high room =
    let fits : nat_lt MOST_LINE_BYTES (length line) ≡ false = let short = is.short in grind (arith, nat_tests) in
    let above : nat_lt quota 1 ≡ false = grind (arith, nat_tests) in
    let below : nat_lt MOST_QUOTA quota ≡ false = grind (arith, nat_tests) in
    let few : (length r.said.objects == MOST_OBJECTS) ≡ false = grind (arith, nat_tests) in
    rw (
      fits,
      printable line (codes "object") (name ∷ decimal quota ∷ []) is,
      line_words line (codes "object") (name ∷ decimal quota ∷ []) is,
      and_no (not r.begun),
      decimal_read (2 ^ 64 - 1) quota (omega arith) (omega arith),
      named,
      fresh,
      above,
      below,
      few,
    ) refl

-- Commands

abbrev pub asked : Reading → ℕ → Command → Reading
asked r object command = record {
  begun = true;
  said = record r.said { lines = r.said.lines ++ record { object = object; command = command } ∷ [] };
}

verb_named : (v : Verb) → (verb_of (row v).word ≡ Some v) × (is_bare_word (row v).word ≡ true) × (bytes_eq (row v).word (codes "2") ≡ false)
unfolding verb_of
verb_named verb.Malloc = (refl, refl, refl)
verb_named verb.Calloc = (refl, refl, refl)
verb_named verb.Realloc = (refl, refl, refl)
verb_named verb.Free = (refl, refl, refl)
verb_named verb.Write = (refl, refl, refl)
verb_named verb.Fill = (refl, refl, refl)
verb_named verb.Read = (refl, refl, refl)
verb_named verb.Link = (refl, refl, refl)
verb_named verb.Follow = (refl, refl, refl)
verb_named verb.Sum = (refl, refl, refl)
verb_named verb.Log = (refl, refl, refl)
verb_named verb.Ilog = (refl, refl, refl)
verb_named verb.Restore = (refl, refl, refl)
verb_named verb.Prune = (refl, refl, refl)
verb_named verb.Logs = (refl, refl, refl)

-- a verb of the table isn't the version
not_version : (v : Verb) (name : List ℕ) (words : List (List ℕ)) → is_version name ((row v).word ∷ words) ≡ false
not_version v name [] = rw (verb_named v).2 (and_no (bytes_eq name (codes "version")))
not_version v name (w ∷ ws) = refl

pub read_command : (r : Reading) (number object : ℕ) (line text : List ℕ) → IsCommand text → line ≡ name_of object ++ 32 ∷ text → length line ≤ MOST_LINE_BYTES
    → object < 10000
    → object_of r.said.objects (name_of object) ≡ Some object → length r.said.lines < MOST_COMMANDS
    → ((after : List ℕ) → lines_of (line ++ 10 ∷ after) ≡ line ∷ lines_of after) × ((command : Command) × (read_line r number line ≡ Ok (asked r object command)))
unfolding read_line
read_command r number object line text c is short small found room =
    let v = c.verb in
    let named = verb_named v in
    let words = (row v).word ∷ c.words in
    let whole : IsLine line (name_of object) words = record {
      is = is ∙ ap (λ t. name_of object ++ t) c.is;
      first_bare = name_bare object small;
      words_bare = rw (named.1, c.fill.bare) refl;
      short = short;
    } in
    let command = (row v).make c.fill.values in
    let fits : nat_lt MOST_LINE_BYTES (length line) ≡ false = grind (arith, nat_tests) in
    let few : (length r.said.lines == MOST_COMMANDS) ≡ false = grind (arith, nat_tests) in (
      line_cut line (name_of object) words whole,
      (
        command,
        rw (
          fits,
          printable line (name_of object) words whole,
          line_words line (name_of object) words whole,
          not_version v (name_of object) c.words,
          and_no (not r.begun),
          no_object object small,
          named.0,
          command_good v c.words c.fill.values c.fill.count c.fill.reads,
          name_good object small,
          found,
          few,
        ) refl,
      ),
    )
