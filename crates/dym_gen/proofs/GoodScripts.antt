-- A made script is read line by line: first the declarations, and then the commands.
use Rattle.std.proofs.Common.{◌≡◌, inl, inr, ℕ, zero, suc, ◌+◌, ◌*◌, ◌/◌, ◌%◌, ◌^◌, ◌<◌, ◌≤◌, Bool, true, false, List, [], ◌∷◌, ◌++◌, length, codes, Some, None, Result, Ok, nat_lt, refl, sym, ap, subst, ◌∙◌, arith, append_assoc, append-nil, length-append}
use Rattle.std.specs.Prelude.{decimal, flat_map}
use Rattle.std.specs.List.{range_with_len}
use Rattle.std.specs.Str.{bytes_eq}
use Rattle.std.proofs.Math.Nat.{div-le_self}
use Rattle.std.proofs.lemmas.Bool.{cases_lt}
use Rattle.std.proofs.lemmas.Bool.Decides.{nat_tests}
use Rattle.dym_base.specs.declared.command.Version.TheVariants.{One}
use Rattle.dym_base.specs.declared.limits.TheConstants.{MOST_INPUT_BYTES, MOST_OBJECTS, MOST_MADE_COMMANDS}
use Rattle.dym_script.specs.declared.script.Decl.{Decl}
use Rattle.dym_script.specs.declared.script.Line.{Line}
use Rattle.dym_base.specs.Lines.{lines_of}
use Rattle.dym_script.specs.Scripts.{ScriptMeaning, Reading, Fault, object_of, start, go_on, read_line, read_lines, script_of}
use Rattle.dym_script.proofs.Index.{with_last, object_of_push}
use Rattle.dym_gen.specs.Commands.{fixed_command, command_text}
use Rattle.dym_gen.specs.Scripts.{object_line, command_line, line_state, command_lines, object_lines, generated}
use Rattle.dym_gen.specs.Laws.{LinesAreShort, ScriptsAreShort}
use Rattle.dym_gen.specs.GrammarLaws.{IsScriptWith}
use Rattle.dym_gen.proofs.GoodWords.{name_of, name_good, name_bare, other_name, own_name, decimal_bare}
use Rattle.dym_gen.proofs.GoodCommands.{each_command}
use Rattle.dym_gen.proofs.GoodLines.{IsLine, line_cut, read_declaration, asked, read_command}

-- a good line, which is cut from the text, is read before the others
line_read : (r next : Reading) (number : ℕ) (line after : List ℕ) → lines_of (line ++ 10 ∷ after) ≡ line ∷ lines_of after → read_line r number line ≡ Ok next
    → read_lines r number (lines_of ((line ++ 10 ∷ []) ++ after)) ≡ read_lines next (number + 1) (lines_of after)
line_read r next number line after cut read =
    ap (λ t. read_lines r number (lines_of t)) (append_assoc line (10 ∷ []) after) ∙ ap (λ ls. read_lines r number ls) cut
    ∙ ap (λ x. go_on number x (λ then. read_lines then (number + 1) (lines_of after))) read

-- The declarations

abbrev quota_of : ℕ → ℕ
quota_of object = 1 + 3 * (object % 4)

abbrev decl_of : ℕ → Decl
decl_of object = record { name = name_of object; quota = quota_of object; line = object + 1 }

-- the declarations of the first n objects
abbrev decls : ℕ → List Decl
decls zero = []
decls (suc n) = decls n ++ decl_of n ∷ []

length_decls : (n : ℕ) → length (decls n) ≡ n
length_decls zero = refl
length_decls (suc n) = length-append (decls n) (decl_of n ∷ []) ∙ omega (arith, length_decls n)

none_of : (name : List ℕ) → object_of [] name ≡ None
unfolding object_of
none_of name = refl

-- a later object isn't declared yet
fresh : (n object : ℕ) → n ≤ object → object < 10000 → object_of (decls n) (name_of object) ≡ None
fresh zero object later small = none_of (name_of object)
fresh (suc n) object later small =
    object_of_push (decls n) (decl_of n) (name_of object)
    ∙ ap (λ o. with_last o (bytes_eq (name_of n) (name_of object)) (length (decls n))) (fresh n object (omega arith) small)
    ∙ ap (λ b. with_last None b (length (decls n))) (other_name n object (omega arith) small (λ same. omega arith))

-- each of them is found in its place
found : (n object : ℕ) → object < n → n ≤ 10000 → object_of (decls n) (name_of object) ≡ Some object
found zero object inside few = absurd (omega arith)
found (suc n) object inside few = elim (cases_lt object n) [
  | inl earlier ↦ object_of_push (decls n) (decl_of n) (name_of object)
      ∙ ap (λ o. with_last o (bytes_eq (name_of n) (name_of object)) (length (decls n))) (found n object earlier (omega arith))
  | inr last ↦
      let same : object ≡ n = omega arith in
      let last : object_of (decls (suc n)) (name_of n) ≡ Some n =
      object_of_push (decls n) (decl_of n) (name_of n)
      ∙ ap (λ o. with_last o (bytes_eq (name_of n) (name_of n)) (length (decls n))) (fresh n n (omega arith) (omega arith))
      ∙ ap (λ b. with_last None b (length (decls n))) (own_name n) ∙ ap (λ i. Some i) (length_decls n) in
      subst (λ k. object_of (decls (suc n)) (name_of k) ≡ Some k) (sym same) last
]

-- what is read with the first n declarations
abbrev read_decls : Bool → ℕ → Reading
read_decls begun n = record { begun = begun; said = record { version = One; objects = decls n; lines = [] } }

-- the line of a declaration, without its end
abbrev decl_line : ℕ → List ℕ
decl_line object = codes "object o" ++ decimal object ++ codes " " ++ decimal (quota_of object)

decl_words : LinesAreShort → (object : ℕ) → object < MOST_OBJECTS → IsLine (decl_line object) (codes "object") (name_of object ∷ decimal (quota_of object) ∷ [])
decl_words short object small =
    let modulo : object % 4 < 4 = omega arith in
    record {
      is = ap (λ t. codes "object o" ++ t) (append_assoc (decimal object) (32 ∷ []) (decimal (quota_of object))
          ∙ ap (λ t. decimal object ++ 32 ∷ t) (sym (append-nil (decimal (quota_of object)))));
      first_bare = refl;
      words_bare = rw (name_bare object (omega arith), decimal_bare (quota_of object) (omega arith)) refl;
      short = omega (arith, short.0 object small, length-append (decl_line object) (10 ∷ []));
    }

-- one declaration more
decl_read : LinesAreShort → (begun : Bool) (object : ℕ) (after : List ℕ) → object < MOST_OBJECTS
    → read_lines (read_decls begun object) (object + 1) (lines_of (object_line object ++ after))
    ≡ read_lines (read_decls true (suc object)) (object + 1 + 1) (lines_of after)
decl_read short begun object after small =
    let modulo : object % 4 < 4 = omega arith in
    let line = decl_words short object small in
    let room : length (decls object) < MOST_OBJECTS = omega (arith, length_decls object) in
    let read : read_line (read_decls begun object) (object + 1) (decl_line object) ≡ Ok (read_decls true (suc object)) =
    read_declaration (read_decls begun object) (object + 1) (quota_of object) (decl_line object) (name_of object) line (name_good object (omega arith))
    (fresh object object (omega arith) (omega arith)) (omega arith) (omega arith) room in
    line_read (read_decls begun object) (read_decls true (suc object)) (object + 1) (decl_line object) after
    (line_cut (decl_line object) (codes "object") (name_of object ∷ decimal (quota_of object) ∷ []) line after) read

-- all declarations
decls_read : LinesAreShort → (n object : ℕ) (begun : Bool) (after : List ℕ) → object + n ≤ MOST_OBJECTS
    → (b : Bool) × (read_lines (read_decls begun object) (object + 1) (lines_of (flat_map object_line (range_with_len object n) ++ after))
    ≡ read_lines (read_decls b (object + n)) (object + n + 1) (lines_of after))
decls_read short zero object begun after few =
    let same : object ≡ object + 0 = omega arith in
    (begun, ap (λ k. read_lines (read_decls begun k) (k + 1) (lines_of after)) same)
decls_read short (suc n) object begun after few =
    let one : object + 1 ≡ suc object = omega arith in
    let end : suc object + n ≡ object + suc n = omega arith in
    let rest = flat_map object_line (range_with_len (object + 1) n) in
    let more = decls_read short n (suc object) true after (omega arith) in (
      more.0,
      ap (λ t. read_lines (read_decls begun object) (object + 1) (lines_of t)) (append_assoc (object_line object) rest after)
          ∙ decl_read short begun object (rest ++ after) (omega arith)
          ∙ ap (λ k. read_lines (read_decls true (suc object)) (k + 1) (lines_of (flat_map object_line (range_with_len k n) ++ after))) one
          ∙ more.1 ∙ ap (λ k. read_lines (read_decls more.0 k) (k + 1) (lines_of after)) end,
    )

-- The commands

-- what is read after one line more, which is a command
record AsksOnce (objects k x number : ℕ) (r : Reading) (after : List ℕ) : Type 0 where
  next : Reading
  read : read_lines r number (lines_of (command_line objects k x ++ after)) ≡ read_lines next (number + 1) (lines_of after)
  same : next.said.objects ≡ r.said.objects
  count : length next.said.lines ≡ k + 1

command_read : LinesAreShort → (objects k x number : ℕ) (r : Reading) (after : List ℕ) → 0 < objects → objects ≤ MOST_OBJECTS → k < MOST_MADE_COMMANDS
    → r.said.objects ≡ decls objects → length r.said.lines ≡ k
    → AsksOnce objects k x number r after
command_read short objects k x number r after some few within is count =
    let object = k % objects in
    let inside : object < objects = omega arith in
    let quotient = div-le_self k objects in
    let text = command_text (fixed_command object (k / objects)) x in
    let line = codes "o" ++ decimal object ++ codes " " ++ text in
    let fits : length line ≤ 4096 = omega (arith, short.1 objects k x some few within, length-append line (10 ∷ [])) in
    let here : object_of r.said.objects (name_of object) ≡ Some object = rw is (found objects object inside (omega arith)) in
    let read = read_command r number object line text (each_command object (k / objects) x (omega arith)) (append_assoc (name_of object) (32 ∷ []) text) fits
    (omega arith) here (omega arith) in
    let one : List Line = record { object = object; command = read.1.0 } ∷ [] in
    record {
      next = asked r object read.1.0;
      read = line_read r (asked r object read.1.0) number line after (read.0 after) read.1.1;
      same = refl;
      count = length-append r.said.lines one ∙ omega arith;
    }

-- what the lines of all commands make of a reading
record AsksAll (objects n k : ℕ) (r : Reading) (read : Result ScriptMeaning Fault) : Type 0 where
  said : ScriptMeaning
  is : read ≡ Ok said
  same : said.objects ≡ r.said.objects
  count : length said.lines ≡ k + n

commands_read : LinesAreShort → (objects n k x number : ℕ) (r : Reading) → 0 < objects → objects ≤ MOST_OBJECTS → k + n ≤ MOST_MADE_COMMANDS
    → r.said.objects ≡ decls objects → length r.said.lines ≡ k
    → AsksAll objects n k r (read_lines r number (lines_of (command_lines objects n k x)))
commands_read short objects zero k x number r some few within is count = record { said = r.said; is = refl; same = refl; count = omega arith }
commands_read short objects (suc n) k x number r some few within is count =
    let state = line_state objects k x in
    let one = command_read short objects k x number r (command_lines objects n (k + 1) state) some few (omega arith) is count in
    let rest = commands_read short objects n (k + 1) state (number + 1) one.next some few (omega arith) (one.same ∙ is) one.count in
    record {
      said = rest.said;
      is = one.read ∙ rest.is;
      same = rest.same ∙ one.same;
      count = rest.count ∙ omega arith;
    }

-- The whole

-- a text that isn't too long says what its lines do
script_read : (bytes : List ℕ) (said : ScriptMeaning) → length bytes ≤ MOST_INPUT_BYTES → read_lines start 1 (lines_of bytes) ≡ Ok said → script_of bytes ≡ Ok said
unfolding script_of
script_read bytes said short read =
    let fits : nat_lt MOST_INPUT_BYTES (length bytes) ≡ false = grind (arith, nat_tests) in
    rw fits read

two_parts : (seed objects commands : ℕ) → generated seed objects commands ≡ object_lines objects ++ command_lines objects commands 0 (seed % 2 ^ 31)
unfolding generated
two_parts seed objects commands = refl

pub made_good : LinesAreShort → ScriptsAreShort → (seed objects commands : ℕ) → 0 < objects → objects ≤ MOST_OBJECTS → commands ≤ MOST_MADE_COMMANDS
    → IsScriptWith (generated seed objects commands) objects commands
made_good short bounded seed objects commands some few within =
    let x = seed % 2 ^ 31 in
    let decl = decls_read short objects 0 false (command_lines objects commands 0 x) (omega arith) in
    let none : 0 + objects ≡ objects = omega arith in
    let rest = commands_read short objects commands 0 x (0 + objects + 1) (read_decls decl.0 (0 + objects)) some few (omega arith) (ap decls none) refl in
    let less = bounded seed objects commands some few within in
    record {
      said = rest.said;
      good = script_read (generated seed objects commands) rest.said (omega arith)
          (ap (λ t. read_lines start 1 (lines_of t)) (two_parts seed objects commands) ∙ (decl.1 ∙ rest.is));
      objects = ap (λ (ds : List Decl). length ds) (rest.same ∙ ap decls none) ∙ length_decls objects;
      commands = rest.count ∙ omega arith;
    }
