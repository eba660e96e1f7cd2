-- What the grammar says of a line in the usual spelling.
use Rattle.std.proofs.Common.{◌≡◌, ℕ, ◌+◌, ◌-◌, ◌<◌, ◌≤◌, ◌==◌, Bool, true, false, cond, not, ◌&&◌, List, [], ◌∷◌, ◌++◌, length, get_or, codes, Some, None, Result, Ok, Err, nat_le, nat_lt, refl, sym, ap, ◌∙◌, arith, append_assoc, length-append}
use Rattle.std.proofs.lemmas.Bool.Decides.{nat_tests}
use Rattle.std.specs.List.{list_all, onto_first}
use Rattle.std.specs.Str.{bytes_eq}
use Rattle.std.specs.Cmp.Lexicographic.{bytes_decides}
use Rattle.dym_base.specs.Names.{is_name, is_name_byte}
use Rattle.dym_base.specs.declared.bad_kind.BadKind.{BadKind}
use Rattle.dym_base.specs.declared.command.Command.{Command}
use Rattle.dym_base.specs.declared.limits.TheConstants.{MOST_NAME_BYTES, MOST_LINE_BYTES}
use Rattle.dym_script.specs.declared.verb.Verb.{Verb}
use Rattle.dym_script.specs.declared.reader.Ask.{Ask}
use Rattle.dym_script.specs.declared.reader.Reader.{Reader}
use Rattle.dym_base.specs.Lines.{lines_of}
use Rattle.dym_script.specs.Lines.{words_of, is_printable}
use Rattle.dym_script.specs.Scripts.{ScriptMeaning, Reading, object_of, ask_at, is_version, begin, read_line}
use Rattle.dym_commands.specs.Requests.{asks}
use Rattle.dym_script.specs.Table.{verb_of, command_of}
use Rattle.dym_script.specs.Readers.{reading, IsNext}
use Rattle.dym_script.specs.Quick.{is_bare, is_bare_word, spelled, Demands}
use Rattle.dym_script.proofs.WordCuts.{both_true}
use Rattle.dym_script.proofs.Index.{object_of_more}
use Rattle.dym_script.proofs.Spelled.{no_more, all_weaker, words_of_spelled, lines_of_front, line_printable}

and_no : (b : Bool) → (b && false) ≡ false
and_no true = refl
and_no false = refl

not_version_word : (word : List ℕ) (v : Verb) → verb_of word ≡ Some v → bytes_eq word (codes "2") ≡ false
unfolding verb_of
not_version_word word v named = elim (bytes_eq word (codes "2")) as (λ b. bytes_eq word (codes "2") ≡ b → b ≡ false) [
  | true ↦ λ same.
      let is : Some v ≡ None = sym named ∙ ap verb_of ((bytes_decides word (codes "2")).0 same) in
      absurd (cc)
  | false ↦ λ _. refl
] refl

-- a verb isn't the version
not_version : (name word : List ℕ) (words : List (List ℕ)) (v : Verb) → verb_of word ≡ Some v → is_version name (word ∷ words) ≡ false
not_version name word [] v named = rw (not_version_word word v named) (and_no (bytes_eq name (codes "version")))
not_version name word (w ∷ ws) v named = refl

name_parts : (name : List ℕ) → is_name name ≡ true → (nat_le 1 (length name) ≡ true) × (list_all is_name_byte name ≡ true) × (bytes_eq name (codes "object") ≡ false)
name_parts name good =
    let outer = both_true (nat_le 1 (length name) && nat_le (length name) MOST_NAME_BYTES && list_all is_name_byte name) (not (bytes_eq name (codes "object"))) good in
    let inner = both_true (nat_le 1 (length name) && nat_le (length name) MOST_NAME_BYTES) (list_all is_name_byte name) outer.0 in
    let most = both_true (nat_le 1 (length name)) (nat_le (length name) MOST_NAME_BYTES) inner.0 in
    (most.0, inner.1, no_more (bytes_eq name (codes "object")) outer.1)

name_byte_bare : (c : ℕ) → is_name_byte c ≡ true → is_bare c ≡ true
name_byte_bare c byte = grind (arith, nat_tests)

no_hash : (c : ℕ) → is_name_byte c ≡ true → (c == 35) ≡ false
no_hash c byte = grind (arith, nat_tests)

-- a name is a word, and doesn't begin as a line that is skipped
pub name_bare : (name : List ℕ) → is_name name ≡ true → is_bare_word name ≡ true
name_bare [] good = absurd (cc)
name_bare (c ∷ cs) good = all_weaker is_name_byte is_bare name_byte_bare (c ∷ cs) (name_parts (c ∷ cs) good).1

name_no_hash : (name : List ℕ) → is_name name ≡ true → (get_or name 0 0 == 35) ≡ false
name_no_hash [] good = absurd (cc)
name_no_hash (c ∷ cs) good = no_hash c (both_true (is_name_byte c) (list_all is_name_byte cs) (name_parts (c ∷ cs) good).1).0

begin_reading : (o : Result ScriptMeaning BadKind) → begin o ≡ reading true o
begin_reading (Ok s) = refl
begin_reading (Err kind) = refl

-- a line of these words asks this of the object of this name
read_asking : (r : Reading) (number place : ℕ) (line name word : List ℕ) (words : List (List ℕ)) (v : Verb) (command : Command)
    → length line ≤ MOST_LINE_BYTES → list_all is_printable line ≡ true → words_of line ≡ name ∷ word ∷ words
    → is_name name ≡ true → verb_of word ≡ Some v → command_of v words ≡ Ok command → object_of r.said.objects name ≡ Some place
    → read_line r number line ≡ reading true (ask_at r.said command (Some place))
unfolding read_line
read_asking r number place line name word words v command short good cut named verb makes object =
    let fits : nat_lt MOST_LINE_BYTES (length line) ≡ false = grind (arith, nat_tests) in
    rw (
      fits,
      good,
      cut,
      name_no_hash name named,
      not_version name word words v verb,
      and_no (not r.begun),
      (name_parts name named).2,
      verb,
      makes,
      named,
      object,
    ) (begin_reading (ask_at r.said command (Some place)))

first_stays : (b : ℕ) (lines : List (List ℕ)) → onto_first b lines ≡ [] → ⊥
first_stays b [] none = absurd (cc)
first_stays b (line ∷ lines) none = absurd (cc)

-- there is a first line where something is left
pub some_line : (text : List ℕ) → 0 < length text → lines_of text ≡ [] → ⊥
some_line [] some none = omega arith
some_line (b ∷ bytes) some none = elim (b == 10) as (λ t. cond t ([] ∷ lines_of bytes) (onto_first b (lines_of bytes)) ≡ [] → ⊥) [
  | true ↦ λ e. absurd (cc)
  | false ↦ λ e. first_stays b (lines_of bytes) e
] none

-- a line in the usual spelling that names a declared object is the next to be read
pub next_asked : (r : Reader) (text name words rest : List ℕ) (ask : Ask) → text ≡ name ++ words → is_name name ≡ true
    → Some ask.object ≡ object_of r.objects.items name → ask.object < length r.objects.items → Demands words ask.asked rest
    → length text - length rest ≤ MOST_LINE_BYTES + 1 → IsNext r text ask rest
next_asked r text name words rest ask front named found within d short =
    let spoken = d.word ∷ d.words in
    let line = name ++ spelled spoken in
    let bare = name_bare name named in
    let printable = line_printable name spoken bare d.bare in
    let is : text ≡ line ++ 10 ∷ rest = front ∙ ap (λ t. name ++ t) d.is ∙ sym (append_assoc name (spelled spoken) (10 ∷ rest)) in
    let long : length text ≡ length line + (1 + length rest) = ap length is ∙ length-append line (10 ∷ rest) ∙ omega arith in
    record {
      within = within;
      shorter = omega arith;
      first = (
        line,
        ap lines_of is ∙ lines_of_front line rest printable,
        λ now more number are. read_asking now number ask.object line name d.word d.words d.verb (asks ask.asked) (omega arith) printable
            (words_of_spelled name spoken bare d.bare) named d.named d.makes
            (ap (λ ds. object_of ds name) are ∙ object_of_more r.objects.items more name ask.object (sym found)),
      );
    }
